use Rattle.std.proofs.Common.{◌++◌, sym, ap, ◌∙◌, subst}
use Rattle.occ_tool_run.specs.occ_nform_table.declared.table.TableRow.{TableRow}
use Rattle.occ_tool_run.specs.occ_nform_table.Rows.{RowIsNamed}
use Rattle.occ_draw.specs.Pictures.{row_text}
use Rattle.occ_draw.proofs.Written.{rows_end, rows_step}
use Rattle.occ_draw.proofs.picture.push_rows.Goals as goal

pub push_row-requires : goal.push_row-requires
push_row-requires c = subst (RowIsNamed c.args.names.now) (sym c.index-rows-number.is) (c.requires c.loop-number.number c.index-rows-number.result c.loop-number-test.true)

pub loop-number-preserved : goal.loop-number-preserved
loop-number-preserved c = rows_step c.args.names.now c.args.rows.now c.loop-number.number c.index-rows-number.result c.loop-number.text.items c.push_row.new.text.items _ c.loop-number-test.true c.loop-number.invariant
    (c.in_ok-push_row.ensures ∙ ap (λ (r : TableRow). c.loop-number.text.items ++ row_text c.args.names.now c.loop-number.number r) c.index-rows-number.is)

pub returns : goal.returns
returns c = rows_end c.args.names.now c.args.rows.now c.loop-number.number c.loop-number.text.items _ c.loop-number-test.false c.loop-number.invariant
