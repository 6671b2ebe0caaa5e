use Rattle.std.proofs.Common.{◌≡◌, IsTrue, None, Some, rules, sym, ap, subst, ◌∙◌}
use Rattle.std.specs.Option.{option_map}
use Rattle.occ_replay.proofs.Changing.{found_new, new_kept, new_there, old_kept, refused_stops, scope_there_kept, taken, unjoined_there}
use Rattle.occ_replay.specs.Scripts.{number_of, step_of}
use Rattle.occ_replay_rules.specs.Steps.{nowhere, unnamed}
use Rattle.occ_syntax.specs.Scopes.{environment}
use Rattle.occ_syntax.specs.Usage.{Keeps}
use Rattle.occ_syntax.specs.View.{tree}
use Rattle.occ_replay.proofs.step.take_step.Goals as goal

pub returns-in_default-clause-stopped : goal.returns-in_default-clause-stopped
returns-in_default-clause-stopped c = unnamed (ap (option_map number_of) c.in_default.is)

pub returns-in_default-at-clause-stopped : goal.returns-in_default-at-clause-stopped
returns-in_default-at-clause-stopped c = nowhere c.in-Some.law.0 (ap (option_map number_of) c.in-Some.is) c.in_default-at.ensures

pub returns-in-Err-clause-stopped : goal.returns-in-Err-clause-stopped
returns-in-Err-clause-stopped c =
    refused_stops c.args.program (step_of c.args.step.now) c.in-Some.law.0 (tree c.in-Some-at._old.now) (ap (option_map number_of) c.in-Some.is) c.in-Some-at.ensures
    c.in-Err.stopped c.in-Err.ensures.refused

pub unreachable-requires : goal.unreachable-requires
unreachable-requires c =
    let none : None ≡ Some _ = sym c.in_default-at-2.ensures ∙ new_there c.args.program (step_of c.args.step.now) c.in-Ok.change c.in-Ok.ensures.found in
    cc

pub joins-requires-clause-scope : goal.joins-requires-clause-scope
joins-requires-clause-scope c =
    scope_there_kept c.args.program c.args.step.now.path c.in-Ok.change.scope c.requires c.in-Ok.ensures.found.scope

pub joins-requires-clause-old : goal.joins-requires-clause-old
joins-requires-clause-old c =
    let found = c.in-Ok.ensures.found in
    old_kept c.args.program c.args.step.now.path c.in-Ok.change.scope (tree c.in-Ok.change.old) c.requires found.scope found.old

pub joins-requires-clause-new : goal.joins-requires-clause-new
joins-requires-clause-new c =
    let found = c.in-Ok.ensures.found in
    let change = c.in-Ok.change in
    subst (Keeps (environment change.scope)) (found_new c.args.program (step_of c.args.step.now) change (tree c.in-Some-at-2.new.now) found c.in-Some-at-2.ensures)
    (new_kept c.args.program (step_of c.args.step.now) change.scope (tree change.old) c.requires found.scope found.old found.acceptable)

pub returns-then-branch-clause-taken : goal.returns-then-branch-clause-taken
returns-then-branch-clause-taken c =
    let yes : IsTrue c.in_ok-joins.field-0 = search (rules, c.if-branch.true) in
    taken c.args.program (step_of c.args.step.now) c.in-Ok.change c.in-Some.law.0 (tree c.in-Some-at-2.new.now) c.in-Ok.ensures.found
    (ap (option_map number_of) c.in-Some.is) c.in-Some-at-2.ensures (c.in_ok-joins.ensures.0 yes)

pub returns-else-branch-clause-stopped : goal.returns-else-branch-clause-stopped
returns-else-branch-clause-stopped c =
    unjoined_there c.args.program (step_of c.args.step.now) c.in-Ok.change c.in-Some.law.0 (tree c.in-Some-at-2.new.now) c.in-Ok.ensures.found
    (ap (option_map number_of) c.in-Some.is) c.in-Some-at-2.ensures
    (λ j. let yes : IsTrue c.in_ok-joins.field-0 = c.in_ok-joins.ensures.1 j in search (rules, c.if-branch.false, yes))
