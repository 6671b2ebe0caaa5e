-- A process that is made where a condition holds, and a PAR whose first process goes under a declaration.
use Rattle.std.specs.Prelude.{ℕ, ◌≡◌, false, Option, None, Some}
use Rattle.occ_syntax.specs.declared.proc.Proc.{Proc}
use Rattle.occ_syntax.specs.declared.scope.Kind.{Kind}
use Rattle.occ_syntax.specs.Declarations.{declaring}
use Rattle.occ_syntax.specs.Names.{free_in_some}
use Rattle.occ_syntax.specs.Tree.{Tree, par, Trees, and_tree}
use Rattle.occ_syntax.specs.View.{tree}

-- the condition holds, and this is the process; or the condition doesn't hold
abbrev pub IsWhere : Type 0 → Tree → Option Proc → Type 0
IsWhere P r None = P → ⊥
IsWhere P r (Some found) = P × (tree found ≡ r)

-- a PAR, and the PAR with its first process under the declaration, whose name isn't free in the rest
pub data InFirst (x : ℕ) (k : Kind) : Tree → Tree → Type 0 where
  in_first : (p : Tree) (qs : Trees) → free_in_some qs x ≡ false
      → InFirst x k (par (and_tree p qs)) (par (and_tree (declaring x k p) qs))
