use Rattle.occ_script_table.proofs.Left.{script_left}
use Rattle.occ_script_table.proofs.table_laws.scripts_leave_places.Goals as goal

pub returns : goal.returns
returns c = script_left
