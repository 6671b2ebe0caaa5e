use Rattle.std.proofs.lemmas.Result.{IfOk-weaker}
use Rattle.occ_syntax.specs.View.{exps}
use Rattle.occ_law_shape.proofs.Questions.{never_all}
use Rattle.occ_law_shape.proofs.comparison.is_never_all.Goals as goal

pub returns : goal.returns
returns c = IfOk-weaker _ _ _ (λ answer. never_all c.args.scope.now (exps c.args.under.now) answer) c.holds.ensures
