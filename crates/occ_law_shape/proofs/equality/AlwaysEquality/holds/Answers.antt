use Rattle.std.proofs.lemmas.Result.{IfOk-weaker}
use Rattle.std.proofs.Common.{ap, ◌∙◌}
use Rattle.occ_syntax.specs.View.{exp, exps}
use Rattle.occ_law_shape.proofs.Questions.{equal_always_asked}
use Rattle.occ_law_shape.proofs.equality.AlwaysEquality.holds.Goals as goal

pub returns : goal.returns
returns c =
    IfOk-weaker _ _ _ (λ answer. equal_always_asked c.args.self.now.scope.now (exp c.args.left.now) (exp c.args.right.now) (exps c.items.result.now) answer
    (ap exps (c.items.ensures ∙ c.new-none.ensures))) c.holds.ensures
