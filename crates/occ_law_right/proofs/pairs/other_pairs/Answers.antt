use Rattle.std.proofs.Common.{ap, length, sym, true≢false, ◌∙◌}
use Rattle.occ_law_seq.proofs.from_law_shape.Fronts.{test_of}
use Rattle.occ_syntax.specs.View.{numbers, tree}
use Rattle.occ_law_right.proofs.Assigned.{assigned_none, assigned_some}
use Rattle.occ_law_right.proofs.pairs.other_pairs.Goals as goal

pub returns-then-is_empty : goal.returns-then-is_empty
unfolding tree
returns-then-is_empty c = assigned_none _ _ c.items.result.now ((test_of _ _ c.is_empty.ensures).0 c.if-is_empty.true) (ap numbers c.items.ensures ∙ c.in_ok-others.ensures)

pub returns : goal.returns
unfolding tree
returns c =
    assigned_some _ _ c.in_ok-others.others c.in_ok-values.values
    (λ none. true≢false (sym ((test_of _ _ c.is_empty.ensures).1 (ap length c.items.ensures ∙ none)) ∙ c.if-is_empty.false)) c.in_ok-others.ensures c.in_ok-values.ensures
