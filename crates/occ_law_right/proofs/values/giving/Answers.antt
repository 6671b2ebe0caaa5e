use Rattle.std.proofs.Common.{[], ◌∷◌, ◌++◌, ap, ◌∙◌}
use Rattle.occ_syntax.specs.Tree.{assign}
use Rattle.occ_syntax.specs.View.{exps, numbers, tree}
use Rattle.occ_law_right.proofs.values.giving.Goals as goal

pub returns : goal.returns
unfolding tree
returns c =
    ap (λ l. assign (numbers l) (exps c.push-2.new.self)) (c.in_ok-push.ensures.ok ∙ ap (λ l. l ++ c.args.name ∷ []) c.new-vars.ensures)
    ∙ ap (λ l. assign (c.args.name.0 ∷ []) (exps l)) (c.in_ok-push-2.ensures.ok ∙ ap (λ l. l ++ c.args.value ∷ []) c.new-values.ensures)
