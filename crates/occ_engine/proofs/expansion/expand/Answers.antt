use Rattle.std.proofs.Common.{◌∙◌, refl, ap, subst}
use Rattle.occ_engine.proofs.Granting.{accepted_rules, blocked_by, brought_out, never_nowhere, never_unmade, no_pair, pair_there}
use Rattle.occ_engine.specs.declared.fault.Stopped.TheVariants as stopped
use Rattle.occ_engine.specs.Granted.{AreCutOff, IsCutOff}
use Rattle.occ_engine.specs.Outcomes.{IsOutcome}
use Rattle.occ_engine.specs.Wishes.{wishes_of}
use Rattle.occ_replay_rules.specs.Expansion.{IsBlocked, IsNoPar}
use Rattle.occ_syntax.specs.View.{tree}
use Rattle.occ_engine.proofs.expansion.expand.Goals as goal

pub returns-in_default-pair-clause-stopped : goal.returns-in_default-pair-clause-stopped
returns-in_default-pair-clause-stopped c =
    subst (λ z. IsNoPar (tree z.body) c.args.path.now) c.program-program.ensures.same
    (no_pair c.program-program.result.now c.args.path.now (tree c.in-Some.part.now) c.in-Some.ensures c.in_default-pair.ensures)

pub returns-in-Ok-clause-outcome : goal.returns-in-Ok-clause-outcome
returns-in-Ok-clause-outcome c =
    subst (λ z. IsOutcome z c.in-Ok.outcome) c.program-program.ensures.same
    (brought_out c.program-program.result.now (wishes_of c.items.result.now) c.in-Ok.outcome c.in-Ok.ensures.brought)

pub returns-in-Err-NotAccepted-clause-stopped : goal.returns-in-Err-NotAccepted-clause-stopped
returns-in-Err-NotAccepted-clause-stopped c =
    let from = c.program-program.result.now in
    let first = tree c.in-Some-pair.first.now in
    let second = tree c.in-Some-pair.second.now in
    let wishes = wishes_of c.items.result.now in
    let there = pair_there from c.args.path.now (tree c.in-Some.part.now) first second c.in-Some.ensures c.in-Some-pair.ensures in
    let cut : IsCutOff from wishes stopped.NotAccepted = subst (AreCutOff from wishes) c.in-Err-NotAccepted.field-0-is c.in-Err-NotAccepted.ensures.stopped in (
      refl,
      subst (λ z. IsBlocked z.params (tree z.body) c.args.path.now) c.program-program.ensures.same
          (blocked_by from c.args.path.now first second wishes (accepted_rules from c.program-program.ensures.accepted) there (ap wishes_of c.items.ensures ∙ c.in_ok-wishes.ensures) cut),
    )

pub unreachable-requires-in-Err-NoPath : goal.unreachable-requires-in-Err-NoPath
unreachable-requires-in-Err-NoPath c =
    let from = c.program-program.result.now in
    let first = tree c.in-Some-pair.first.now in
    let second = tree c.in-Some-pair.second.now in
    let wishes = wishes_of c.items.result.now in
    let there = pair_there from c.args.path.now (tree c.in-Some.part.now) first second c.in-Some.ensures c.in-Some-pair.ensures in
    let cut : IsCutOff from wishes stopped.NoPath = subst (AreCutOff from wishes) c.in-Err-NoPath.field-0-is c.in-Err-NoPath.ensures.stopped in
    never_nowhere from c.args.path.now first second wishes (accepted_rules from c.program-program.ensures.accepted) there (ap wishes_of c.items.ensures ∙ c.in_ok-wishes.ensures) cut

pub unreachable-requires-in-Err-NotApplicable : goal.unreachable-requires-in-Err-NotApplicable
unreachable-requires-in-Err-NotApplicable c =
    let from = c.program-program.result.now in
    let first = tree c.in-Some-pair.first.now in
    let second = tree c.in-Some-pair.second.now in
    let wishes = wishes_of c.items.result.now in
    let there = pair_there from c.args.path.now (tree c.in-Some.part.now) first second c.in-Some.ensures c.in-Some-pair.ensures in
    let cut : IsCutOff from wishes stopped.NotApplicable = subst (AreCutOff from wishes) c.in-Err-NotApplicable.field-0-is c.in-Err-NotApplicable.ensures.stopped in
    never_unmade from c.args.path.now first second wishes (accepted_rules from c.program-program.ensures.accepted) there (ap wishes_of c.items.ensures ∙ c.in_ok-wishes.ensures) cut
