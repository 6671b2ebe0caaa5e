-- The table of all laws by number, when a law holds between two parts, and what a law makes of a part by itself.
use Rattle.std.specs.Prelude.{ℕ, ◌≡◌, ◌==◌, Bool, true, false, not, ◌&&◌, ◌||◌, nat_lt, nat_le, List, [], ◌∷◌, if◌then◌else◌, MatchBool}
use Rattle.std.specs.List.{list_any}
use Rattle.occ_bits.specs.occ_base.declared.names.Name.{Name}
use Rattle.occ_bits.specs.occ_syntax.declared.scope.Kind.{Kind}
use Rattle.occ_bits.specs.occ_syntax.Names.{is_in}
use Rattle.occ_bits.specs.occ_syntax.Scopes.{environment}
use Rattle.occ_bits.specs.occ_syntax.Tree.{Tree}
use Rattle.occ_bits.specs.occ_syntax.Usage.{Keeps}
use Rattle.occ_law.specs.Choice.{ChoiceSides}
use Rattle.occ_law.specs.Parallel.{ParallelSides}
use Rattle.occ_law.specs.Scope.{ScopeSides, VarAlt}
use Rattle.occ_law.specs.Sequence.{SequenceSides}

-- The two sides of the law of that number in a scope, where the lists in front of the changed place have these sizes. There
-- are none for a number that no law has.
abbrev pub SIDES : ℕ → List (Name × Kind) → List ℕ → Tree → Tree → Type 0
SIDES n S ks l r =
    MatchBool (nat_le n 15) (SequenceSides n S ks l r)
    (MatchBool (nat_le n 36) (ChoiceSides n S ks l r)
    (MatchBool (nat_le n 45) (ParallelSides n S ks l r) (ScopeSides n S ks l r)))

-- The law of that number holds between two parts in a scope: they are its two sides, and both keep names, types, directions
-- and usage there.
pub record LAW (n : ℕ) (S : List (Name × Kind)) (l r : Tree) : Type 0 where
  pub place : List ℕ
  pub sides : SIDES n S place l r
  pub left : Keeps (environment S) l
  pub right : Keeps (environment S) r

-- ---- what a law makes of its left side, where nothing but the left side is given

-- the laws whose right side the left side doesn't tell
abbrev pub has_direct : ℕ → Bool
has_direct n = not (is_in (7 ∷ 8 ∷ 14 ∷ 24 ∷ 25 ∷ 27 ∷ 40 ∷ 47 ∷ 58 ∷ []) n)

-- the sides from which a direct result is taken: of var-alt those of the first form alone
abbrev pub DIRECT_SIDES : ℕ → List (Name × Kind) → List ℕ → Tree → Tree → Type 0
DIRECT_SIDES n S ks l r = MatchBool (has_direct n) (MatchBool (n == 52) (VarAlt ks l r) (SIDES n S ks l r)) ⊥

-- An instance that changes its left side.
pub record IsChange (n : ℕ) (S : List (Name × Kind)) (place : List ℕ) (l r : Tree) : Type 0 where
  pub sides : DIRECT_SIDES n S place l r
  pub differ : l ≡ r → ⊥
  pub left : Keeps (environment S) l
  pub right : Keeps (environment S) r

-- the first list is smaller, compared from the left
abbrev pub is_before : List ℕ → List ℕ → Bool
is_before [] ks = false
is_before (j ∷ js) [] = false
is_before (j ∷ js) (k ∷ ks) = nat_lt j k || (j == k && is_before js ks)

-- The direct result: the right side of the instance whose lists in front of the changed place are the shortest.
pub record IsDirect (n : ℕ) (S : List (Name × Kind)) (l r : Tree) : Type 0 where
  pub place : List ℕ
  pub change : IsChange n S place l r
  pub least : (other : List ℕ) (q : Tree) → IsChange n S other l q → is_before other place ≡ false
