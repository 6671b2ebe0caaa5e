use Rattle.std.specs.Prelude.{ℕ}
use Rattle.occ_node.specs.occ_base.declared.names.Name.{Name}
use Rattle.occ_node.specs.declared.world.World.{World}
use Rattle.occ_scope.specs.Change.{AreChanged}
use Rattle.occ_scope.specs.declared.change.Change.TheVariants.{Restrict, Forget, Shift}
use Rattle.occ_scope.specs.declared.restricts.Restricts.{Restricts}
use Rattle.occ_scope.specs.declared.forgets.Forgets.{Forgets}
use Rattle.occ_scope.specs.declared.shifts.Shifts.{Shifts}

-- the channel whose events are left out
unfoldable pub chan_of : Restricts → Name
chan_of restricts = restricts.chan

-- the bits that are forgotten
unfoldable pub bits_of : Forgets → ℕ
bits_of forgets = forgets.bits

-- what is remembered is so in the world
unfoldable pub KeepRestricted : World → Restricts → Type 0
KeepRestricted w restricts = AreChanged w (Restrict restricts.chan) restricts.memo

unfoldable pub KeepForgotten : World → Forgets → Type 0
KeepForgotten w forgets = AreChanged w (Forget forgets.bits) forgets.memo

unfoldable pub KeepShifted : World → Shifts → Type 0
KeepShifted w shifts = AreChanged w (Shift 0) shifts.memo
