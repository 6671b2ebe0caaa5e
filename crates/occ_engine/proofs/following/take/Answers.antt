use Rattle.std.proofs.Common.{ap}
use Rattle.std.proofs.lemmas.Result.{IfErr-weaker, IfOk-weaker}
use Rattle.std.specs.Option.{option_map}
use Rattle.occ_engine.proofs.Taking.{direct_fails, direct_taken, given_fails, given_taken, unresolved_fails}
use Rattle.occ_engine.specs.Moved.{number_of, order_of}
use Rattle.occ_replay_rules.specs.Orders.{nowhere, unnamed}
use Rattle.occ_script.specs.occ_parse_part.Shown.{part_of}
use Rattle.occ_syntax.specs.View.{tree}
use Rattle.occ_engine.proofs.following.take.Goals as goal

pub returns-in_default-clause-stopped : goal.returns-in_default-clause-stopped
returns-in_default-clause-stopped c = unnamed (ap (option_map number_of) c.in_default.is)

pub returns-in_default-at-clause-stopped : goal.returns-in_default-at-clause-stopped
returns-in_default-at-clause-stopped c = nowhere c.in-Some.law.0 (ap (option_map number_of) c.in-Some.is) c.in_default-at.ensures

pub returns-in-Ok-clause-taken : goal.returns-in-Ok-clause-taken
returns-in-Ok-clause-taken c =
    IfOk-weaker c.given.result _ _ (λ m h.
    given_taken c.args.program (order_of c.args.order.now) c.in-Some.law c.in_ok-scope.scope (part_of c.in-Some-part.raw) (tree c.in-Ok.part) m
    (ap (option_map number_of) c.in-Some.is) (ap (option_map part_of) c.in-Some-part.is) c.in_ok-scope.ensures c.in-Ok.ensures.found h) c.given.ensures.found

pub returns-in-Ok-clause-stopped : goal.returns-in-Ok-clause-stopped
returns-in-Ok-clause-stopped c =
    IfErr-weaker c.given.result _ _ (λ s h.
    given_fails c.args.program (order_of c.args.order.now) c.in-Some.law c.in_ok-scope.scope (tree c.in-Some-at._old.now) (part_of c.in-Some-part.raw) (tree c.in-Ok.part) s
    (ap (option_map number_of) c.in-Some.is) c.in-Some-at.ensures (ap (option_map part_of) c.in-Some-part.is) c.in_ok-scope.ensures c.in-Ok.ensures.found h)
    c.given.ensures.stopped

pub returns-in-Err-clause-stopped : goal.returns-in-Err-clause-stopped
returns-in-Err-clause-stopped c =
    unresolved_fails c.args.program (order_of c.args.order.now) c.in-Some.law c.in_ok-scope.scope (tree c.in-Some-at._old.now) (part_of c.in-Some-part.raw) c.in-Err.stopped
    (ap (option_map number_of) c.in-Some.is) c.in-Some-at.ensures (ap (option_map part_of) c.in-Some-part.is) c.in_ok-scope.ensures c.in-Err.ensures.refused

pub returns-in-None-clause-taken : goal.returns-in-None-clause-taken
returns-in-None-clause-taken c =
    IfOk-weaker c.direct.result _ _ (λ m h. direct_taken c.args.program (order_of c.args.order.now) c.in-Some.law m
    (ap (option_map number_of) c.in-Some.is) (ap (option_map part_of) c.in-None.is) h) c.direct.ensures.found

pub returns-in-None-clause-stopped : goal.returns-in-None-clause-stopped
returns-in-None-clause-stopped c =
    IfErr-weaker c.direct.result _ _ (λ s h. direct_fails c.args.program (order_of c.args.order.now) c.in-Some.law s
    (ap (option_map number_of) c.in-Some.is) (ap (option_map part_of) c.in-None.is) h) c.direct.ensures.stopped
