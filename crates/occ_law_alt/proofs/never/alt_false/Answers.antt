use Rattle.std.proofs.lemmas.Result.{IfOk-weaker}
use Rattle.occ_syntax.specs.Scopes.{environment}
use Rattle.occ_syntax.specs.View.{branches, tree}
use Rattle.occ_syntax.proofs.Rows.{refuted}
use Rattle.occ_law_alt.proofs.Begun.{through}
use Rattle.occ_law_alt.proofs.Lacked.{false_law, false_never, lacked_typed}
use Rattle.occ_law_alt.proofs.never.alt_false.Goals as goal

pub is_never-requires-clause-typed : goal.is_never-requires-clause-typed
is_never-requires-clause-typed c = lacked_typed (environment c.args.scope.now) _ _ _ (branches c.in-Alt-law_case.alternatives.now) (branches c.in-Alt-law_case-law_case.others.now) (tree c.args.left.now)
    c.in-Alt-law_case.ensures c.requires.left c.in-Some.ensures

pub returns-in-Some : goal.returns-in-Some
returns-in-Some c = IfOk-weaker _ _ _ (λ answer test. through test
    (false_law c.args.scope.now _ _ _ (branches c.in-Alt-law_case.alternatives.now) (branches c.in-Alt-law_case-law_case.others.now) (tree c.args.left.now) (tree c.args.right.now)
    c.in-Alt-law_case.ensures c.in-Alt-law_case-law_case.ensures c.in-Some.ensures)) c.is_never.ensures

pub returns-in-None : goal.returns-in-None
returns-in-None c = refuted (false_never c.args.scope.now (branches c.in-Alt-law_case.alternatives.now) (branches c.in-Alt-law_case-law_case.others.now) (tree c.args.left.now) (tree c.args.right.now)
    c.in-Alt-law_case.ensures c.in-Alt-law_case-law_case.ensures c.in-None.ensures)
