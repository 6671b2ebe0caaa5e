-- What a check answers.
use Rattle.std.specs.Prelude.{◌≡◌, Result, Ok, Err}
use Rattle.occ_syntax.specs.declared.scope.Program.{Program}
use Rattle.occ_syntax.specs.Usage.{KeepsUsage}
use Rattle.occ_syntax.specs.View.{tree}
use Rattle.occ_usage.specs.declared.accepted.Accepted.{Accepted}
use Rattle.occ_usage.specs.declared.fault.UsageFault.{UsageFault}
use Rattle.occ_usage.specs.declared.fault.UsageFault.TheVariants.{SharedVariable, SharedEnd, Memory}
use Rattle.occ_usage.specs.Accepted.{IsFirst}

-- The program itself where it keeps the usage rule, and else its first fault.
abbrev pub IsChecked : Program → Result Accepted UsageFault → Type 0
IsChecked program (Ok accepted) = (accepted.program ≡ program) × KeepsUsage (tree program.body)
IsChecked program (Err (SharedVariable node name)) = IsFirst (SharedVariable node name) program
IsChecked program (Err (SharedEnd node name dir)) = IsFirst (SharedEnd node name dir) program
IsChecked program (Err Memory) = Unit {0}
