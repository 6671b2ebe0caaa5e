use Rattle.occ_meaning.proofs.Parts.{par_stop}
use Rattle.occ_meaning.proofs.parallel.par_with_stop_stops_at_its_end.Goals as goal

pub returns : goal.returns
returns c = par_stop
