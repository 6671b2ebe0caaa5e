use Rattle.std.proofs.Common.{IfOk, IsTrue, None, ◌≡◌, rules, subst}
use Rattle.occ_derive_search.specs.Derivations.{AreFollowed, IsDerived}
use Rattle.occ_derive_search.proofs.Trying.{AreRead, elsewhere, not_followed}
use Rattle.occ_engine.specs.Followed.{ended}
use Rattle.occ_engine.specs.Moved.{moves_of}
use Rattle.occ_syntax.specs.View.{tree}
use Rattle.occ_derive_search.proofs.attempt.attempt.Goals as goal

pub returns-in_default : goal.returns-in_default
returns-in_default c =
    let from = c.args.accepted.now.program in
    let steps = c.in_ok-steps.steps in
    let read : AreRead c.args.code.now steps = λ moves spells. subst (λ r. IfOk r (λ steps. moves_of steps ≡ moves)) c.in_ok-steps.was (c.steps_of.ensures moves spells) in
    let nowhere : AreFollowed from steps None =
    subst (λ r. AreFollowed from steps r) c.in_default.is (subst (λ s. AreFollowed from s c.in_ok-to.field-0) c.items.ensures c.in_ok-to.ensures) in
    not_followed from (tree c.args.body.now) c.args.code.now steps read nowhere

pub returns-else-same_proc : goal.returns-else-same_proc
returns-else-same_proc c =
    let from = c.args.accepted.now.program in
    let steps = c.in_ok-steps.steps in
    let read : AreRead c.args.code.now steps = λ moves spells. subst (λ r. IfOk r (λ steps. moves_of steps ≡ moves)) c.in_ok-steps.was (c.steps_of.ensures moves spells) in
    let derived : IsDerived from (ended steps c.in-Some.to) =
    subst (λ r. AreFollowed from steps r) c.in-Some.is (subst (λ s. AreFollowed from s c.in_ok-to.field-0) c.items.ensures c.in_ok-to.ensures) in
    elsewhere from c.in-Some.to (tree c.args.body.now) c.args.code.now steps read derived
    (λ same. let yes : IsTrue c.same_proc.result = c.same_proc.ensures.1 same in search (rules, c.if-same_proc.false, yes))
