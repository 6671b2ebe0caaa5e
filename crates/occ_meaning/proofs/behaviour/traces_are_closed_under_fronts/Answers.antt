use Rattle.occ_meaning.proofs.Settled.{front_trace}
use Rattle.occ_meaning.proofs.behaviour.traces_are_closed_under_fronts.Goals as goal

pub returns : goal.returns
returns c = front_trace
