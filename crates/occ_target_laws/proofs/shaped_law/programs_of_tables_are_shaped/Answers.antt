use Rattle.occ_target_laws.proofs.Shaped.{programs_of_tables_are_shaped}
use Rattle.occ_target_laws.proofs.shaped_law.programs_of_tables_are_shaped.Goals as goal

pub returns : goal.returns
returns c = programs_of_tables_are_shaped
