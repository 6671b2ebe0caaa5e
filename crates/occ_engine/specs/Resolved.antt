-- The part of an order in the scope at its path.
use Rattle.std.specs.Prelude.{◌≡◌, List, None}
use Rattle.occ_syntax.specs.occ_base.declared.names.Name.{Name}
use Rattle.occ_engine.specs.declared.fault.Stopped.{Stopped}
use Rattle.occ_engine.specs.declared.fault.Stopped.TheVariants as stopped
use Rattle.occ_script.specs.occ_parse_part.Parts.{Part}
use Rattle.occ_script.specs.occ_parse_part.Resolving.{part_fault, part_process}
use Rattle.occ_syntax.specs.declared.scope.Kind.{Kind}
use Rattle.occ_syntax.specs.Tree.{Tree}

-- the process that a part is in a scope, where it has no fault there
pub record IsResolved (S : List (Name × Kind)) (part : Part) (p : Tree) : Type 0 where
  pub faultless : part_fault part S ≡ None
  pub process : p ≡ part_process part S

-- or it has a fault; out of memory says nothing
abbrev pub IsUnresolved : List (Name × Kind) → Part → Stopped → Type 0
IsUnresolved S part stopped.NotAccepted = part_fault part S ≡ None → ⊥
IsUnresolved S part stopped.Memory = Unit {0}
IsUnresolved S part stopped.NoLaw = ⊥
IsUnresolved S part stopped.NoPath = ⊥
IsUnresolved S part stopped.NotApplicable = ⊥
