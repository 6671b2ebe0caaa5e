-- What it says that there is no normal program.
use Rattle.std.specs.Prelude.{ℕ, ◌<◌, ◌≡◌, List}
use Rattle.occ_syntax.specs.Counts.{controls}
use Rattle.occ_syntax.specs.Tree.{Tree}
use Rattle.occ_target.specs.declared.fault.TargetFault.{TargetFault}
use Rattle.occ_target.specs.declared.fault.TargetFault.TheVariants as fault

-- the body would be too long, and the table of names is as before; or there was too little memory
abbrev pub IsRefused : Tree → List (List ℕ) → List (List ℕ) → TargetFault → Type 0
IsRefused body old new fault.Long = (4096 < controls body) × (new ≡ old)
IsRefused body old new fault.Memory = Unit {0}
