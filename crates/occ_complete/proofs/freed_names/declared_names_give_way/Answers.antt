use Rattle.occ_complete.proofs.freed_names.declared_names_give_way.Goals as goal
use Rattle.occ_complete.proofs.Freeing.{part_freed}

pub returns : goal.returns
returns c = part_freed
