use Rattle.occ_meaning.proofs.Parts.{stop_par}
use Rattle.occ_meaning.proofs.parallel.stop_with_a_part_stops_at_its_end.Goals as goal

pub returns : goal.returns
returns c = stop_par
