use Rattle.std.proofs.Common.{sym, true≢false, ◌∙◌}
use Rattle.occ_syntax.specs.View.{branches, exp, tree, waiting}
use Rattle.occ_syntax.proofs.Rows.{refuted}
use Rattle.occ_law_alt.proofs.Tests.{refuted_when}
use Rattle.occ_law_alt.proofs.Without.{lacks_guard, lacks_where}
use Rattle.occ_law_alt.proofs.lacking.lacks.Goals as goal

pub returns-then-same_guard : goal.returns-then-same_guard
returns-then-same_guard c = lacks_where c.in-Some.found.now _ _ _ (branches c.args.all.now) (branches c.args.others.now) _ c.in-Some.ensures (c.same_guard.ensures.0 c.if-same_guard.true) c.same_proc.ensures

pub returns-else-same_guard : goal.returns-else-same_guard
returns-else-same_guard c = refuted_when c.same_guard.result c.if-same_guard.false
    (λ h. true≢false (sym (c.same_guard.ensures.1 (lacks_guard c.in-Some.found.now _ _ _ (branches c.args.all.now) (branches c.args.others.now) c.in-Some.ensures h)) ∙ c.if-same_guard.false))

pub returns-in-None : goal.returns-in-None
returns-in-None c = refuted (c.in-None.ensures (exp c.args.guard.now.condition) (waiting c.args.guard.now.wait) (tree c.args.process.now))
