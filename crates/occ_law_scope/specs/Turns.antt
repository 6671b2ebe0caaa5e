-- A SEQ of two processes, and one that begins with an assignment of one variable.
use Rattle.std.specs.Prelude.{ℕ, ◌≡◌, List, [], ◌∷◌, Option, None, Some}
use Rattle.std.specs.Borrow.{Bor}
use Rattle.occ_syntax.specs.occ_base.declared.names.Name.{Name}
use Rattle.occ_syntax.specs.declared.expr.Expr.{Expr}
use Rattle.occ_syntax.specs.declared.proc.Proc.{Proc}
use Rattle.occ_syntax.specs.Tree.{Exp, Tree, assign, seq}
use Rattle.occ_syntax.specs.View.{exp, tree}
use Rattle.occ_names.specs.occ_meaning.Parallel.{two}

-- the process is a SEQ of these two; or it is a SEQ of no two
abbrev pub IsTurns : Tree → Option (Bor Proc × Bor Proc) → Type 0
IsTurns w None = (p q : Tree) → w ≡ seq (two p q) → ⊥
IsTurns w (Some found) = w ≡ seq (two (tree found.0.now) (tree found.1.now))

-- the lists have one item each, which are these; or they haven't
abbrev pub IsOnePair : List ℕ → List Exp → Option (Name × Bor Expr) → Type 0
IsOnePair xs es None = (x : ℕ) (e : Exp) → xs ≡ x ∷ [] → es ≡ e ∷ [] → ⊥
IsOnePair xs es (Some found) = (xs ≡ found.0.0 ∷ []) × (es ≡ exp found.1.now ∷ [])

-- the process is an assignment of this one pair; or it is none of one pair
abbrev pub IsOnlyPair : Tree → Option (Name × Bor Expr) → Type 0
IsOnlyPair w None = (x : ℕ) (e : Exp) → w ≡ assign (x ∷ []) (e ∷ []) → ⊥
IsOnlyPair w (Some found) = w ≡ assign (found.0.0 ∷ []) (exp found.1.now ∷ [])

-- a process behind the assignment of one pair
abbrev pub begun : ℕ → Exp → Tree → Tree
begun x e p = seq (two (assign (x ∷ []) (e ∷ [])) p)

-- the process is this one behind the assignment of this pair; or it doesn't begin so
abbrev pub IsBegun : Tree → Option (Name × Bor Expr × Bor Proc) → Type 0
IsBegun w None = (x : ℕ) (e : Exp) (p : Tree) → w ≡ begun x e p → ⊥
IsBegun w (Some found) = w ≡ begun found.0.0 (exp found.1.now) (tree found.2.now)
