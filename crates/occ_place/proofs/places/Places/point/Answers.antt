use Rattle.std.proofs.Common.{ap, ◌∙◌}
use Rattle.std.proofs.lemmas.Grind.{merely}
use Rattle.occ_run.specs.occ_behaviour.States.{is_state}
use Rattle.occ_place.proofs.places.Places.point.Goals as goal

pub point_of-requires : goal.point_of-requires
point_of-requires c = record {
  scope = c.program.ensures.accepted.typed.scope;
  kept = merely c.program.ensures.accepted.keeps;
  state = ap (λ p. is_state p.params c.args.state.now) c.program.ensures.same ∙ c.requires;
}
