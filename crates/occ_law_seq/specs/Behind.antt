-- A list taken apart, and a process with what follows it.
use Rattle.std.specs.Prelude.{◌≡◌, List, Option, None, Some}
use Rattle.std.specs.Borrow.{Bor}
use Rattle.occ_syntax.specs.declared.proc.Proc.{Proc}
use Rattle.occ_syntax.specs.Tree.{Tree, seq, Trees, and_tree}
use Rattle.occ_syntax.specs.View.{tree, trees}

-- the list's first part and the rest; or it has none
abbrev pub IsDivided : Trees → Option (Bor Proc × Bor (List Proc)) → Type 0
IsDivided ps None = (p : Tree) (qs : Trees) → ps ≡ and_tree p qs → ⊥
IsDivided ps (Some found) = ps ≡ and_tree (tree found.0.now) (trees found.1.now)

-- a process and what follows it
abbrev pub followed : Trees → Tree → Tree
followed qs p = seq (and_tree p qs)
