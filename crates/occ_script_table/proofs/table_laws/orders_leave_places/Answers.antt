use Rattle.occ_script_table.proofs.Left.{orders_left}
use Rattle.occ_script_table.proofs.table_laws.orders_leave_places.Goals as goal

pub returns : goal.returns
returns c = orders_left
