use Rattle.std.proofs.Common.{Err, ap, arith, refl, sym}
use Rattle.occ_prove.proofs.Growing.{grown, program_grown, steps_grown}
use Rattle.occ_prove.proofs.Scripts.{leads_to_normal, script_proved}
use Rattle.occ_prove.specs.Proofs.{long}
use Rattle.occ_tool_run.proofs.from_usage.Law.{faultless_keeps}
use Rattle.occ_prove.proofs.proving.proved.Goals as goal

pub normal-requires : goal.normal-requires
normal-requires c = c.requires.ready.interface

pub returns-in-Err-Long-clause-proved : goal.returns-in-Err-Long-clause-proved
returns-in-Err-Long-clause-proved c = long (c.in-Err-Long.ensures.long (ap Err c.in-Err-Long.field-0-is)) refl

pub derive_to-requires : goal.derive_to-requires
derive_to-requires c =
    let q = c.args.pair.right in
    leads_to_normal c.normal_programs_are_derivable.ensures c.args.pair.names c.args.pair.left.program q.program c.in-Ok.outcome (faultless_keeps q.program q.kept)
    c.requires.ready.header c.requires.same c.in-Ok.ensures.derived

pub joined-requires-clause-there : goal.joined-requires-clause-there
joined-requires-clause-there c = c.in-Ok.ensures.derived.derived

pub joined-requires-clause-back : goal.joined-requires-clause-back
joined-requires-clause-back c = c.in_ok-back.ensures.derived.outcome_is

pub joined-requires-clause-header : goal.joined-requires-clause-header
joined-requires-clause-header c = c.requires.ready.header

pub joined-requires-clause-meet : goal.joined-requires-clause-meet
joined-requires-clause-meet c = sym c.in_ok-back.ensures.derived.to_is

pub written-requires-clause-writable : goal.written-requires-clause-writable
written-requires-clause-writable c =
    let mid = c.normal.new.names in
    let new = c.derive_to.new.names in
    let name = c.in-Ok.ensures.known.first.name_is in
    c.in_ok-steps.ensures.writable new
    (steps_grown c.parts_are_known_up_to_their_greatest_name.ensures mid new c.in-Ok.outcome.steps (omega (arith, name)) (grown mid new c.in_ok-back.ensures.grown) c.in-Ok.ensures.known.steps)
    c.in_ok-back.ensures.writable.steps c.in_ok-back.ensures.writable.first

pub written-requires-clause-left : goal.written-requires-clause-left
written-requires-clause-left c =
    let mid = c.normal.new.names in
    let new = c.derive_to.new.names in
    program_grown c.parts_are_known_up_to_their_greatest_name.ensures mid new c.args.pair.left.program (grown mid new c.in_ok-back.ensures.grown) c.in-Ok.ensures.known.first

pub written-requires-clause-right : goal.written-requires-clause-right
written-requires-clause-right c = c.in_ok-back.ensures.writable.first

pub returns-clause-proved : goal.returns-clause-proved
returns-clause-proved c =
    let mid = c.normal.new.names in
    let new = c.derive_to.new.names in
    let name = c.in-Ok.ensures.known.first.name_is in
    let writable = c.in_ok-steps.ensures.writable new
    (steps_grown c.parts_are_known_up_to_their_greatest_name.ensures mid new c.in-Ok.outcome.steps (omega (arith, name)) (grown mid new c.in_ok-back.ensures.grown) c.in-Ok.ensures.known.steps)
    c.in_ok-back.ensures.writable.steps c.in_ok-back.ensures.writable.first in
    script_proved c.args.pair.names mid new c.args.pair.left.program c.args.pair.right.program c.in-Ok.outcome c.in_ok-steps.steps c.in_ok-written.field-0 c.in-Ok.ensures.grown
    c.in_ok-back.ensures.grown c.in-Ok.ensures.derived c.in_ok-steps.ensures.proof writable c.in_ok-written.ensures.said c.in_ok-written.ensures.written
