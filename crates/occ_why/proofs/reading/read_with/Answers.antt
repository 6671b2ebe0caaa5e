use Rattle.std.proofs.Common.{◌∙◌, ap}
use Rattle.occ_why.proofs.Telling.{claim_inside, claim_of, some_so, states_inside}
use Rattle.occ_why.proofs.reading.read_with.Goals as goal

pub returns-clause-claim : goal.returns-clause-claim
returns-clause-claim c =
    claim_of c.behaviours_are_read_as_written.ensures c.args.program.now c.args.lines.now c.args.names.now _ c.args.accepted.program c.in-Ok.behaviour
    (c.items.ensures ∙ ap (λ p. p.params) c.program-held.ensures.same) c.requires.few c.requires.distinct c.requires.interface c.requires.accepted c.in-Ok.ensures.read

pub returns-clause-one : goal.returns-clause-one
returns-clause-one c =
    let shown = c.items.ensures ∙ ap (λ p. p.params) c.program-held.ensures.same in
    let placed = some_so _ _ _ c.in_ok-places.ensures c.in-Some.is in
    record {
      same = placed ∙ ap (λ p. p.params) c.program-held.ensures.same;
      wide = c.requires.interface.interface.wide;
      states = states_inside _ _ c.in-Ok.behaviour shown c.in-Ok.ensures.states;
      events = claim_inside c.args.lines.now c.args.names.now _ c.args.accepted.program.params c.in-Ok.behaviour shown c.in-Ok.ensures.read;
    }
