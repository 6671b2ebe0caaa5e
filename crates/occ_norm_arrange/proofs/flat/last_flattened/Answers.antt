use Rattle.std.proofs.Common.{ap, arith, sym, ◌∙◌}
use Rattle.occ_syntax.proofs.Counting.{weight-declaring}
use Rattle.occ_syntax.proofs.Views.{tree-Par}
use Rattle.occ_syntax.proofs.Weights.{weight}
use Rattle.occ_syntax.proofs.Within.{one_off}
use Rattle.occ_syntax.specs.Declarations.{declaring_all}
use Rattle.occ_syntax.specs.Tree.{par}
use Rattle.occ_syntax.specs.View.{tree, trees}
use Rattle.occ_norm_arrange.proofs.Reshaped.{reshaped_within}
use Rattle.occ_norm_arrange.proofs.Itself.{found_is}
use Rattle.occ_norm_arrange.proofs.flat.last_flattened.Goals as goal

pub loop-name-smaller : goal.loop-name-smaller
loop-name-smaller c = let g = ap weight c.in-Some.ensures ∙ weight-declaring _ _ _ in omega (arith, g)

pub loop-name-preserved : goal.loop-name-preserved
loop-name-preserved c = one_off _ _ _ _ _ _ c.in_ok-push.ensures.ok c.in-Some.ensures c.loop-name.invariant

pub returns : goal.returns
returns c =
    let other = tree c.in-Some-2.flat in
    reshaped_within c.loop-name.declarations (par (trees c.items-2.result.now)) other (tree c.args.part.now) (tree c.in_ok-whole.whole)
    (sym c.loop-name.invariant ∙ ap (declaring_all c.loop-name.declarations) (ap tree c.in-Par.is ∙ tree-Par c.in-Par.parts ∙ ap (λ ps. par (trees ps)) (sym c.items-2.ensures)))
    (c.in_ok-whole.ensures ∙ ap (λ ds. declaring_all ds other) c.items-3.ensures)
    (found_is c.in_ok-flat.field-0 c.in-Some-2.flat _ c.in-Some-2.is c.in_ok-flat.ensures)
