use Rattle.std.proofs.lemmas.Result.{IfOk-weaker}
use Rattle.std.proofs.Common.{ap}
use Rattle.occ_syntax.specs.View.{exp, exps}
use Rattle.occ_law_shape.proofs.Questions.{never_asked}
use Rattle.occ_law_shape.proofs.conditions.is_never.Goals as goal

pub returns : goal.returns
returns c =
    IfOk-weaker _ _ _ (λ answer. never_asked c.args.scope.now (exp c.args.condition.now) (exps c.from_ref.result.now) answer (ap exps c.from_ref.ensures.value))
    c.is_never_all.ensures
