use Rattle.std.proofs.Common.{◌≡◌, take, map}
use Rattle.occ_nform_rows.specs.Ends.{byte_state_at}
use Rattle.occ_nform_rows.proofs.lister.Lister.states_at.Given as goal

abbrev pub invariant-loop-place : goal.invariant-loop-place
invariant-loop-place l = l.states ≡ map (byte_state_at l.self.params.now) (take l.place-index l.places)
