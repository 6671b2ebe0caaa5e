use Rattle.occ_meaning.proofs.Settled.{empty_trace}
use Rattle.occ_meaning.proofs.behaviour.every_part_has_the_empty_trace.Goals as goal

pub returns : goal.returns
returns c = empty_trace
