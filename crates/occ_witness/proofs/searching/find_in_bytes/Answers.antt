use Rattle.std.proofs.Common.{◌∙◌, ap}
use Rattle.occ_witness.proofs.Telling.{claim_found, claim_inside, claim_refused}
use Rattle.occ_witness.proofs.searching.find_in_bytes.Goals as goal

pub returns-in_ok-witness-in-Ok-clause-found : goal.returns-in_ok-witness-in-Ok-clause-found
returns-in_ok-witness-in-Ok-clause-found c =
    claim_found c.behaviours_are_read_as_written.ensures c.args.bytes.now c.args.names.now _ c.args.accepted.now.program c.in-Ok.behaviour c.in_ok-witness-in-Ok.witness c.told.result
    (c.items.ensures ∙ ap (λ p. p.params) c.program-program.ensures.same) c.requires.short c.requires.distinct c.requires.interface c.in-Ok.ensures.read c.in_ok-witness-in-Ok.ensures c.told.ensures.told

pub returns-in-Err-clause-found : goal.returns-in-Err-clause-found
returns-in-Err-clause-found c =
    claim_refused c.faults_stand_where_nothing_goes_on.ensures c.refuse_claim.result c.args.bytes.now c.args.names.now _ c.args.accepted.now.program c.in-Err.fault
    (c.items.ensures ∙ ap (λ p. p.params) c.program-program.ensures.same) c.requires.short c.requires.distinct c.requires.interface c.refuse_claim.ensures.refused c.in-Err.ensures.read

pub find_witness-requires-clause-events : goal.find_witness-requires-clause-events
find_witness-requires-clause-events c =
    claim_inside c.args.bytes.now c.args.names.now _ c.args.accepted.now.program.params c.in-Ok.behaviour (c.items.ensures ∙ ap (λ p. p.params) c.program-program.ensures.same) c.in-Ok.ensures.read
