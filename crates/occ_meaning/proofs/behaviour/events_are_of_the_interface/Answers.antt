use Rattle.occ_meaning.proofs.Interface.{part_in_interface}
use Rattle.occ_meaning.proofs.behaviour.events_are_of_the_interface.Goals as goal

pub returns : goal.returns
returns c = part_in_interface
