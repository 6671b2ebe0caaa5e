use Rattle.std.proofs.Common.{◌≡◌, [], ◌∷◌, rules}
use Rattle.std.proofs.lemmas.Result.{IfOk-weaker}
use Rattle.occ_syntax.specs.View.{exp, exps}
use Rattle.occ_law_shape.proofs.Questions.{exclude_asked}
use Rattle.occ_law_shape.proofs.conditions.exclude_each_other.Goals as goal

pub returns : goal.returns
returns c =
    let is : exps c.items.result.now ≡ exp c.args.first.now ∷ exp c.args.second.now ∷ [] = search rules in
    IfOk-weaker _ _ _ (λ answer. exclude_asked c.args.scope.now (exp c.args.first.now) (exp c.args.second.now) (exps c.items.result.now) answer is) c.is_never_all.ensures
