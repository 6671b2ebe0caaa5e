-- Processes made of two parts.
use Rattle.std.specs.Prelude.{◌≡◌, Option, None, Some}
use Rattle.std.specs.Borrow.{Bor}
use Rattle.occ_syntax.specs.declared.proc.Proc.{Proc}
use Rattle.occ_syntax.specs.Tree.{Tree, Trees}
use Rattle.occ_syntax.specs.View.{tree}
use Rattle.occ_law_shape.specs.occ_meaning.Parallel.{two}

-- the process is made of two parts, which are these; or it isn't
abbrev pub IsTwoIn : (Trees → Tree) → Tree → Option (Bor Proc × Bor Proc) → Type 0
IsTwoIn made whole None = (p q : Tree) → whole ≡ made (two p q) → ⊥
IsTwoIn made whole (Some found) = whole ≡ made (two (tree found.0.now) (tree found.1.now))
