use Rattle.std.proofs.Common.{arith, sym, ◌∙◌}
use Rattle.occ_parse.proofs.Rows.{over_left_forms, none_left_forms}
use Rattle.occ_parse.proofs.stopping.judge_rows.Goals as goal

pub returns-in-Some-clause-forms : goal.returns-in-Some-clause-forms
returns-in-Some-clause-forms c =
    over_left_forms c.args.bound c.args.rows.now c.args.found c.loop-row.row-index c.row-item.result c.loop-row.lines.items c.in-Some.which c.loop-row-test.true c.row-item.is
    c.loop-row.invariant (sym c.in-Some.is ∙ c.line_limit.ensures)

pub returns-clause-forms : goal.returns-clause-forms
returns-clause-forms c =
    none_left_forms c.args.bound c.args.rows.now c.args.found c.loop-row.row-index c.loop-row.lines.items (omega (arith, c.loop-row-test.false)) c.loop-row.invariant
