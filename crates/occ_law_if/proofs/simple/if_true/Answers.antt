use Rattle.std.proofs.lemmas.Result.{IfOk-weaker}
use Rattle.occ_syntax.specs.View.{cases, exp, tree}
use Rattle.occ_law_if.proofs.Sides.{true_law}
use Rattle.occ_law_if.proofs.simple.if_true.Goals as goal

pub returns-else-not-same_proc : goal.returns-else-not-same_proc
returns-else-not-same_proc c =
    IfOk-weaker _ _ _ (λ answer. true_law c.args.scope.now (cases c.in-If-shape.choices.now) (cases c.in-Some.first.behind.now) (exp c.in-Some.first.condition.now)
    (tree c.in-Some.first.process.now) (tree c.args.left.now) (tree c.args.right.now) answer c.in-If-shape.ensures c.in-Some.ensures
    (c.same_proc.ensures.0 c.if-not-same_proc.false)) c.is_always.ensures
