use Rattle.std.proofs.Common.{sym, ap, ◌∙◌, length, arith}
use Rattle.occ_nform_table.specs.occ_lex.Rows.{rows}
use Rattle.occ_nform_table.specs.Reading.{rows_in}
use Rattle.occ_nform_read.proofs.Steps.{rows_goes, rows_fit, rows_stops, rows_ends, rows_smaller}
use Rattle.occ_nform_read.proofs.sections.rows_in.Goals as goal

pub is_row-requires : goal.is_row-requires
is_row-requires c = omega (arith, ap length c.items.ensures, c.loop-line.invariant.fits, c.requires.short)

pub row_behind-requires-clause-number : goal.row_behind-requires-clause-number
row_behind-requires-clause-number c = omega (arith, ap length c.items.ensures, c.loop-line.invariant.fits, c.requires.short)

pub returns-then-not-is_row : goal.returns-then-not-is_row
returns-then-not-is_row c =
    rows_stops c.args.names.now c.args.params.now (length (rows c.args.text.now)) (length c.items.result.now) c.loop-line.found (rows c.loop-line.rest.now) c.in-Some.line.now (rows c.in-Some.after.now)
    (rows_in c.args.names.now c.args.params.now (length (rows c.args.text.now)) 0 (rows c.args.text.now)) c.in-Some.ensures.0 (ap length c.items.ensures) (sym c.is_row.ensures ∙ c.if-not-is_row.true) c.loop-line.invariant.so_far

pub loop-line-smaller : goal.loop-line-smaller
loop-line-smaller c = rows_smaller c.args.names.now c.args.params.now (length c.items.result.now) (rows c.loop-line.rest.now) c.in-Some.line.now (rows c.in-Some.after.now) c.in_ok-row.row (rows c.in_ok-row.left.now) c.in-Some.ensures.0 c.in_ok-row.ensures

pub loop-line-preserved : goal.loop-line-preserved
loop-line-preserved c = record {
  so_far = rows_goes c.args.names.now c.args.params.now (length (rows c.args.text.now)) (length c.items.result.now) c.loop-line.found _ (rows c.loop-line.rest.now) c.in-Some.line.now (rows c.in-Some.after.now) c.in_ok-row.row (rows c.in_ok-row.left.now)
      (rows_in c.args.names.now c.args.params.now (length (rows c.args.text.now)) 0 (rows c.args.text.now)) c.in-Some.ensures.0 (ap length c.items.ensures)
      c.loop-line.invariant.fits (sym c.is_row.ensures ∙ c.if-not-is_row.false) c.in_ok-row.ensures c.in_ok-push.ensures.ok c.loop-line.invariant.so_far;
  fits = rows_fit c.args.names.now c.args.params.now (length (rows c.args.text.now)) (length c.items.result.now) c.loop-line.found _ (rows c.loop-line.rest.now) c.in-Some.line.now (rows c.in-Some.after.now) c.in_ok-row.row (rows c.in_ok-row.left.now)
      c.in-Some.ensures.0 c.loop-line.invariant.fits c.in_ok-row.ensures c.in_ok-push.ensures.ok;
}

pub returns : goal.returns
returns c = rows_ends c.args.names.now c.args.params.now (length (rows c.args.text.now)) c.loop-line.found (rows c.loop-line.rest.now) (rows_in c.args.names.now c.args.params.now (length (rows c.args.text.now)) 0 (rows c.args.text.now)) c.in_default.ensures c.loop-line.invariant.so_far
