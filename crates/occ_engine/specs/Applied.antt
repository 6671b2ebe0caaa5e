-- What a law makes of a part, as the code answers.
use Rattle.std.specs.Prelude.{ℕ, List, Option, None, Some}
use Rattle.std.specs.Borrow.{Bor}
use Rattle.occ_syntax.specs.occ_base.declared.names.Name.{Name}
use Rattle.occ_engine.specs.declared.fault.ApplyFault.{ApplyFault}
use Rattle.occ_engine.specs.declared.fault.ApplyFault.TheVariants as fault
use Rattle.occ_replay_rules.specs.Moves.{IsApplied}
use Rattle.occ_script_write.specs.occ_script_lines.declared.direction.Direction.{Direction}
use Rattle.occ_syntax.specs.declared.proc.Proc.{Proc}
use Rattle.occ_syntax.specs.declared.scope.Kind.{Kind}
use Rattle.occ_syntax.specs.Tree.{Tree}
use Rattle.occ_syntax.specs.View.{tree}

-- the part that is wanted, if one is
abbrev pub wanted_tree : Option (Bor Proc) → Option Tree
wanted_tree None = None
wanted_tree (Some part) = Some (tree part.now)

-- the law makes this of the part
abbrev pub IsMade : Direction → ℕ → List (Name × Kind) → Option Tree → Tree → Proc → Type 0
IsMade dir n S wanted old found = IsApplied dir n S wanted old (tree found)

-- or it makes nothing of it; out of memory says nothing
abbrev pub IsNotMade : Direction → ℕ → List (Name × Kind) → Option Tree → Tree → ApplyFault → Type 0
IsNotMade dir n S wanted old fault.NotApplicable = (new : Tree) → IsApplied dir n S wanted old new → ⊥
IsNotMade dir n S wanted old fault.Memory = Unit {0}
