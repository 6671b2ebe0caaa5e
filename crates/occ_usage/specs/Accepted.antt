-- The programs that may run, and what a check answers.
use Rattle.std.specs.Prelude.{ℕ, ◌≡◌, ◌≤◌, true, is_none, List, [], ◌∷◌, length, Result, Ok, Err}
use Rattle.occ_syntax.specs.declared.scope.Program.{Program}
use Rattle.occ_syntax.specs.Counts.{controls, bits_of_scope, most_bits}
use Rattle.occ_syntax.specs.Scopes.{environment}
use Rattle.occ_syntax.specs.Types.{scope_kept, types_kept}
use Rattle.occ_syntax.specs.Usage.{KeepsUsage, Keeps}
use Rattle.occ_syntax.specs.View.{tree}
use Rattle.occ_usage.specs.declared.fault.UsageFault.{UsageFault}
use Rattle.occ_usage.specs.Faults.{faults, first, names_of}

-- names, types and directions are kept, and the limits of programs that are checked
pub record IsTyped (program : Program) : Type 0 where
  pub scope : scope_kept program.params ≡ true
  pub types : types_kept (tree program.body) (environment program.params) ≡ true
  pub controls : controls (tree program.body) ≤ 4096
  pub parameters : length program.params ≤ 16
  pub interface : bits_of_scope program.params ≤ 16
  pub state : most_bits (tree program.body) (bits_of_scope program.params) ≤ 24

-- and usage is kept too
pub record IsAccepted (program : Program) : Type 0 where
  pub typed : IsTyped program
  pub keeps : Keeps (environment program.params) (tree program.body)

-- the faults of a program, whose body has the number 0
abbrev pub usage_faults : Program → List UsageFault
usage_faults program = faults (tree program.body) 0 (names_of program.params)

-- A program of kept types without faults. It keeps the usage rule too.
pub record IsFaultless (program : Program) : Type 0 where
  pub typed : IsTyped program
  pub none : is_none (first (usage_faults program)) ≡ true

-- a fault that is the first of a program, which breaks the rule
pub record IsFirst (fault : UsageFault) (program : Program) : Type 0 where
  pub later : List UsageFault
  pub found : usage_faults program ≡ fault ∷ later
  pub broken : KeepsUsage (tree program.body) → ⊥

-- a program whose names, types, directions and usage are kept, whatever its size
pub record KeepsRules (program : Program) : Type 0 where
  pub scope : scope_kept program.params ≡ true
  pub keeps : Keeps (environment program.params) (tree program.body)
