use Rattle.occ_scope.specs.Tables.{KeepShifted}
use Rattle.occ_scope.specs.declared.change.Change.TheVariants.{Shift}
use Rattle.occ_scope.proofs.Altering.{are_changed_none}
use Rattle.occ_scope.proofs.shifts.Shifts.new.Goals as goal

pub returns : goal.returns
unfolding KeepShifted
returns c = λ w. are_changed_none w (Shift 0) c.new.result c.new.ensures
