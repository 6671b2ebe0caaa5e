use Rattle.std.proofs.Common.{sym, ◌∙◌}
use Rattle.std.proofs.lemmas.Bool.{eqb-true}
use Rattle.std.proofs.lemmas.List.{take_rest}
use Rattle.occ_nform_read.proofs.Taking.{rows_empty, first_is, first_within}
use Rattle.occ_nform_read.proofs.reading.first_line.Goals as goal

pub returns-then-is_empty : goal.returns-then-is_empty
returns-then-is_empty c = rows_empty c.args.text.now (eqb-true _ 0 (sym c.is_empty.ensures ∙ c.if-is_empty.true))

pub slice_bounds-result-count : goal.slice_bounds-result-count
slice_bounds-result-count c = first_within c.args.text.now c.first_row-line.result.now (sym c.is_empty.ensures ∙ c.if-is_empty.false) c.first_row-line.ensures

pub slice_bounds-result-start : goal.slice_bounds-result-start
slice_bounds-result-start c = first_within c.args.text.now c.first_row-line.result.now (sym c.is_empty.ensures ∙ c.if-is_empty.false) c.first_row-line.ensures

pub returns : goal.returns
returns c = first_is c.args.text.now c.first_row-line.result.now _ (sym c.is_empty.ensures ∙ c.if-is_empty.false) c.first_row-line.ensures (take_rest c.args.text.now _)
