use Rattle.occ_script_back.proofs.Growing.{arrays_grow}
use Rattle.occ_script_back.proofs.part_laws.tables_grow_by_elements.Goals as goal

pub returns : goal.returns
returns c = λ names P arrays table bases. arrays_grow names P table arrays bases
