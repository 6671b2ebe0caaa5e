use Rattle.occ_node.proofs.Recovery.{recovered}
use Rattle.occ_node.proofs.law.rows_are_recovered.Goals as goal

pub returns : goal.returns
returns c = recovered
