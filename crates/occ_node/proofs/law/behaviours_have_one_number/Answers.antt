use Rattle.occ_node.proofs.Recovery.{canonical}
use Rattle.occ_node.proofs.law.behaviours_have_one_number.Goals as goal

pub returns : goal.returns
returns c = canonical
