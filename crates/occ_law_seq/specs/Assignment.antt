-- The pairs of an assignment, what stands for a variable, and the pairs that another list of pairs has.
use Rattle.std.specs.Prelude.{ℕ, ◌≡◌, ◌⊎◌, false, List, [], ◌∷◌, ◌++◌, map, Option, None, Some}
use Rattle.std.specs.Borrow.{Bor}
use Rattle.occ_syntax.specs.declared.expr.Expr.{Expr}
use Rattle.occ_syntax.specs.declared.proc.Proc.{Proc}
use Rattle.occ_syntax.specs.Names.{is_in}
use Rattle.occ_syntax.specs.Tree.{Exp, variable, Tree, assign, seq}
use Rattle.occ_syntax.specs.View.{exp, exps, numbers, tree}
use Rattle.occ_law_shape.specs.occ_meaning.Parallel.{two}
use Rattle.occ_law_shape.specs.occ_meaning.Substitution.{substituted}
use Rattle.occ_law_seq.specs.declared.pairs.Pairs.{Pairs}

-- the part is the assignment of these pairs; or it is no assignment
abbrev pub IsAssignment : Tree → Option Pairs → Type 0
IsAssignment p None = (xs : List ℕ) (es : List Exp) → p ≡ assign xs es → ⊥
IsAssignment p (Some found) = p ≡ assign (numbers found.vars.now) (exps found.values.now)

-- the right side that was found for a variable, or the variable itself
abbrev pub standing_for : ℕ → Option (Bor Expr) → Exp
standing_for x None = variable x
standing_for x (Some value) = exp value.now

-- a process behind the assignment of these pairs
abbrev pub assigned_then : List ℕ → List Exp → Tree → Tree
assigned_then xs es p = seq (two (assign xs es) p)

-- the part is a SEQ of two parts, which are these; or it is no such SEQ
abbrev pub IsInTurn : Tree → Option (Bor Proc × Bor Proc) → Type 0
IsInTurn w None = (p q : Tree) → w ≡ seq (two p q) → ⊥
IsInTurn w (Some found) = w ≡ seq (two (tree found.0.now) (tree found.1.now))

-- the part is a process behind an assignment, which are these; or it is none
abbrev pub IsAssignedFirst : Tree → Option (Pairs × Bor Proc) → Type 0
IsAssignedFirst w None = (xs : List ℕ) (es : List Exp) (p : Tree) → w ≡ assigned_then xs es p → ⊥
IsAssignedFirst w (Some found) = w ≡ assigned_then (numbers found.0.vars.now) (exps found.0.values.now) (tree found.1.now)

-- as many right sides as variables, and no variable twice
abbrev pub ArePairs : List ℕ → List Exp → Type 0
ArePairs [] [] = Unit {0}
ArePairs (x ∷ xs) (e ∷ es) = (is_in xs x ≡ false) × ArePairs xs es
ArePairs [] (e ∷ es) = ⊥
ArePairs (x ∷ xs) [] = ⊥

-- where the part is an assignment, it has such pairs
abbrev pub HasPairs : Tree → Type 0
HasPairs p = (xs : List ℕ) (es : List Exp) → p ≡ assign xs es → ArePairs xs es

-- the variable has this right side among the pairs
abbrev pub HasPair : List ℕ → List Exp → ℕ → Exp → Type 0
HasPair [] es x e = ⊥
HasPair (y ∷ ys) [] x e = ⊥
HasPair (y ∷ ys) (f ∷ fs) x e = ((y ≡ x) × (f ≡ e)) ⊎ HasPair ys fs x e

-- each of the first pairs is among the other ones
abbrev pub AreAmong : List ℕ → List Exp → List ℕ → List Exp → Type 0
AreAmong [] es ys fs = Unit {0}
AreAmong (x ∷ xs) [] ys fs = ⊥
AreAmong (x ∷ xs) (e ∷ es) ys fs = HasPair ys fs x e × AreAmong xs es ys fs

-- the second pairs are the first ones and last a variable beside itself, which isn't among the first ones
pub record IsPadded (xs : List ℕ) (es : List Exp) (ys : List ℕ) (fs : List Exp) : Type 0 where
  pub pad : ℕ
  pub new : is_in xs pad ≡ false
  pub vars : ys ≡ xs ++ pad ∷ []
  pub values : fs ≡ es ++ variable pad ∷ []

-- the second pairs are for the same variables, and the last ones are these with the first pairs put in
pub record IsJoined (xs : List ℕ) (es : List Exp) (ys : List ℕ) (fs : List Exp) (zs : List ℕ) (gs : List Exp) : Type 0 where
  pub second : ys ≡ xs
  pub vars : zs ≡ xs
  pub values : gs ≡ map (substituted xs es) fs
