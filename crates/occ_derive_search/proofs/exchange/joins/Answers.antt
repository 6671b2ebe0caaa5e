use Rattle.std.proofs.Common.{◌↔◌, IfOk, IsTrue, sym, subst}
use Rattle.occ_derive_moves.specs.occ_replay_rules.Steps.{Joins}
use Rattle.occ_syntax.specs.View.{tree}
use Rattle.occ_derive_search.proofs.exchange.joins.Goals as goal

pub returns-in-Forward : goal.returns-in-Forward
returns-in-Forward c =
    let step = c.args.step.now in
    subst (λ d. IfOk c.holds.result (λ answer. IsTrue answer ↔ Joins d step.law.0 c.args.scope.now (tree c.args.old.now) (tree step.part))) (sym c.in-Forward.is) c.holds.ensures

pub returns-in-Backward : goal.returns-in-Backward
returns-in-Backward c =
    let step = c.args.step.now in
    subst (λ d. IfOk c.holds-in-Backward.result (λ answer. IsTrue answer ↔ Joins d step.law.0 c.args.scope.now (tree c.args.old.now) (tree step.part)))
    (sym c.in-Backward.is) c.holds-in-Backward.ensures
