use Rattle.occ_script_table.proofs.Named.{lines_grow}
use Rattle.occ_script_table.proofs.table_laws.names_of_lines_are_places.Goals as goal

pub returns : goal.returns
returns c = λ names P text lines table h. lines_grow names P table text lines h
