use Rattle.occ_meaning.proofs.Parts.{each_written_apart}
use Rattle.occ_meaning.proofs.parallel.separate_parts_write_apart.Goals as goal

pub returns : goal.returns
returns c = each_written_apart
