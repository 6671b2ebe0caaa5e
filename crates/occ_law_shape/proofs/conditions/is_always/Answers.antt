use Rattle.std.proofs.lemmas.Result.{IfOk-weaker}
use Rattle.std.proofs.Common.{ap, ◌∙◌}
use Rattle.occ_syntax.specs.View.{exp, exps}
use Rattle.occ_law_shape.proofs.Questions.{always_asked}
use Rattle.occ_law_shape.proofs.conditions.is_always.Goals as goal

pub returns : goal.returns
returns c =
    IfOk-weaker _ _ _ (λ answer. always_asked c.args.scope.now (exp c.args.condition.now) (exps c.items.result.now) answer (ap exps (c.items.ensures ∙ c.new-none.ensures)))
    c.holds.ensures
