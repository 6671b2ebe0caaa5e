use Rattle.occ_script_table.proofs.Programs.{program_left}
use Rattle.occ_script_table.proofs.table_laws.programs_leave_places.Goals as goal

pub returns : goal.returns
returns c = program_left
