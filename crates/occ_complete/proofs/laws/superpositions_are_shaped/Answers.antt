use Rattle.occ_complete.proofs.Shaping.{superpositions_are_shaped}
use Rattle.occ_complete.proofs.laws.superpositions_are_shaped.Goals as goal

pub returns : goal.returns
returns c = superpositions_are_shaped
