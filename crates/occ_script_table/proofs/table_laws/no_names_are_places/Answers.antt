use Rattle.occ_script_table.proofs.Named.{no_names}
use Rattle.occ_script_table.proofs.table_laws.no_names_are_places.Goals as goal

pub returns : goal.returns
returns c = no_names
