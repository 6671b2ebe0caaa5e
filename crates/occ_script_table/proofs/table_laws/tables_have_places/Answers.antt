use Rattle.occ_script_table.proofs.Whole.{orders_have_places, program_has_places, script_has_places}
use Rattle.occ_script_table.proofs.table_laws.tables_have_places.Goals as goal

pub returns-clause-program : goal.returns-clause-program
returns-clause-program c = program_has_places

pub returns-clause-orders : goal.returns-clause-orders
returns-clause-orders c = orders_have_places

pub returns-clause-script : goal.returns-clause-script
returns-clause-script c = script_has_places
