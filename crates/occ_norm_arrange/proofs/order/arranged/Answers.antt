use Rattle.std.proofs.Common.{ap, arith, sym, ◌∙◌}
use Rattle.occ_syntax.proofs.Counting.{weight-declaring}
use Rattle.occ_syntax.proofs.Views.{tree-Par}
use Rattle.occ_syntax.proofs.Weights.{weight}
use Rattle.occ_syntax.proofs.Within.{one_off}
use Rattle.occ_syntax.specs.Declarations.{declaring_all}
use Rattle.occ_syntax.specs.Tree.{par}
use Rattle.occ_syntax.specs.View.{in_procs, tree, trees}
use Rattle.occ_norm_arrange.proofs.Reshaped.{reshaped_within}
use Rattle.occ_norm_arrange.proofs.Itself.{found_is}
use Rattle.occ_norm_arrange.proofs.order.arranged.Goals as goal

pub loop-name-smaller : goal.loop-name-smaller
loop-name-smaller c = let g = ap weight c.in-Some.ensures ∙ weight-declaring _ _ _ in omega (arith, g)

pub loop-name-preserved : goal.loop-name-preserved
loop-name-preserved c = one_off _ _ _ _ _ _ c.in_ok-push.ensures.ok c.in-Some.ensures c.loop-name.invariant

pub returns : goal.returns
returns c =
    let sorted = c.in-Some-2.sorted in
    reshaped_within c.loop-name.declarations (par (trees c.items.result.now)) (par (trees (in_procs sorted))) (tree c.args.part.now) (tree c.in_ok-whole.whole)
    (sym c.loop-name.invariant ∙ ap (declaring_all c.loop-name.declarations) (ap tree c.in-Par.is ∙ tree-Par c.in-Par.parts ∙ ap (λ ps. par (trees ps)) (sym c.items.ensures)))
    (c.in_ok-whole.ensures ∙ ap (declaring_all c.items-2.result.now) (tree-Par sorted) ∙ ap (λ ds. declaring_all ds (par (trees (in_procs sorted)))) c.items-2.ensures)
    (found_is c.in_ok-sorted.field-0 sorted _ c.in-Some-2.is c.in_ok-sorted.ensures)
