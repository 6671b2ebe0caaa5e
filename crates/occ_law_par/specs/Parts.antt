-- The parts that a PAR has, as a whole, before a place, at it and behind it.
use Rattle.std.specs.Prelude.{ℕ, ◌≡◌, List, [], ◌∷◌, Option, None, Some}
use Rattle.std.specs.Borrow.{Bor}
use Rattle.occ_syntax.specs.declared.proc.Proc.{Proc}
use Rattle.occ_syntax.specs.Tree.{Exp, Tree, assign, seq, par, Trees, and_tree}
use Rattle.occ_syntax.specs.View.{tree, trees}
use Rattle.occ_law_shape.specs.occ_meaning.Parallel.{all_of, two}
use Rattle.occ_law_shape.specs.occ_law.Lists.{size}
use Rattle.occ_law_par.specs.declared.right_parts.Start.{Start}
use Rattle.occ_law_shape.specs.declared.lists.Here.{Here}

-- a SEQ that begins with an assignment
pub record Begins (l a : Tree) (ps : Trees) : Type 0 where
  pub variables : List ℕ
  pub values : List Exp
  pub first : a ≡ assign variables values
  pub whole : l ≡ seq (and_tree a ps)

-- the assignment with which a SEQ begins, and the parts behind it; or it isn't such a SEQ
abbrev pub IsBegun : Tree → Option Start → Type 0
IsBegun l None = (xs : List ℕ) (es : List Exp) (ps : Trees) → l ≡ seq (and_tree (assign xs es) ps) → ⊥
IsBegun l (Some found) = Begins l (tree found.assignment.now) (trees found.rest.now)

-- a PAR of these parts changes as a whole
pub record IsWhole (ks : List ℕ) (l : Tree) (ps : Trees) : Type 0 where
  pub none : ks ≡ []
  pub whole : l ≡ par ps

-- the parts of a PAR that changes as a whole; or it doesn't, or isn't one
abbrev pub AreParts : List ℕ → Tree → Option (Bor (List Proc)) → Type 0
AreParts ks l None = (ps : Trees) → IsWhole ks l ps → ⊥
AreParts ks l (Some found) = IsWhole ks l (trees found.now)

-- the parts of a PAR of two that changes as a whole; or it doesn't, or isn't one
abbrev pub AreTwo : List ℕ → Tree → Option (Bor Proc × Bor Proc) → Type 0
AreTwo ks l None = (p q : Tree) → IsWhole ks l (two p q) → ⊥
AreTwo ks l (Some found) = IsWhole ks l (two (tree found.0.now) (tree found.1.now))

-- a PAR has two lists of parts, of which the first has that size
pub record IsSplit (ks : List ℕ) (l : Tree) (ps qs : Trees) : Type 0 where
  pub front : ks ≡ size ps ∷ []
  pub whole : l ≡ par (all_of ps qs)

-- the parts before the place, at it and behind it; or there is none at it
abbrev pub IsChosen : List ℕ → Tree → Option Here → Type 0
IsChosen ks l None = (ps qs : Trees) (p : Tree) → IsSplit ks l ps (and_tree p qs) → ⊥
IsChosen ks l (Some found) = IsSplit ks l (trees found.before.now) (and_tree (tree found.part.now) (trees found.behind.now))
