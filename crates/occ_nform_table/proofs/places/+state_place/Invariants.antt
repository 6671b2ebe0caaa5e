use Rattle.std.proofs.Common.{length}
use Rattle.occ_nform_table.proofs.places.+state_place.Given as goal

abbrev pub decreases-state_place : goal.decreases-state_place
decreases-state_place l = length l.params.now
