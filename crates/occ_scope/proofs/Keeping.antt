use Rattle.occ_node.specs.World.{Leads}
use Rattle.occ_node.specs.declared.world.World.{World}
use Rattle.occ_scope.specs.Tables.{KeepShifted}
use Rattle.occ_scope.specs.declared.change.Change.TheVariants.{Shift}
use Rattle.occ_scope.specs.declared.shifts.Shifts.{Shifts}
use Rattle.occ_scope.proofs.Altering.{are_changed_later}

-- what is remembered stays right as the world grows
pub shifts-lead : (v w : World) (shifts : Shifts) → Leads v w → KeepShifted v shifts → KeepShifted w shifts
unfolding KeepShifted
shifts-lead v w shifts k keep = are_changed_later v w k (Shift 0) shifts.memo keep
