-- What is found where a law is asked of a part: at one place, at all places, and as its direct result.
use Rattle.std.specs.Prelude.{ℕ, ◌≡◌, ◌<◌, ◌≤◌, List, [], ◌∷◌, Option, None, Some}
use Rattle.occ_syntax.specs.occ_base.declared.names.Name.{Name}
use Rattle.occ_law_alt.specs.occ_law.declared.place.Place.{Place}
use Rattle.occ_law_alt.specs.occ_law.Instances.{sizes}
use Rattle.occ_law_alt.specs.occ_law.RuleTable.{IsChange, IsDirect}
use Rattle.occ_syntax.specs.declared.proc.Proc.{Proc}
use Rattle.occ_syntax.specs.declared.scope.Kind.{Kind}
use Rattle.occ_syntax.specs.Scopes.{environment}
use Rattle.occ_syntax.specs.Tree.{Tree}
use Rattle.occ_syntax.specs.Usage.{Keeps}
use Rattle.occ_syntax.specs.View.{tree}

-- a right side differs from the left one and keeps the rules; or it doesn't
abbrev pub IsKept : List (Name × Kind) → Tree → Tree → Option Proc → Type 0
IsKept S l r None = (l ≡ r → ⊥) → Keeps (environment S) r → ⊥
IsKept S l r (Some found) = (tree found ≡ r) × (l ≡ r → ⊥) × Keeps (environment S) r

-- the law changes the part at no place that has these lists in front of it
abbrev pub IsUnchanged : ℕ → List (Name × Kind) → Tree → List ℕ → Type 0
IsUnchanged n S l ks = (r : Tree) → IsChange n S ks l r → ⊥

-- the change at a place; or there is none
abbrev pub IsChangeAt : ℕ → List (Name × Kind) → Tree → Place → Option Proc → Type 0
IsChangeAt n S l place None = IsUnchanged n S l (sizes place)
IsChangeAt n S l place (Some found) = IsChange n S (sizes place) l (tree found)

-- the change behind the fewest items, of so many at most; or there is none
abbrev pub IsFirstBehind : ℕ → List (Name × Kind) → Tree → ℕ → Option Proc → Type 0
IsFirstBehind n S l most None = (k : ℕ) → k ≤ most → IsUnchanged n S l (k ∷ [])
IsFirstBehind n S l most (Some found) = (k : ℕ) × IsChange n S (k ∷ []) l (tree found) × ((j : ℕ) → j < k → IsUnchanged n S l (j ∷ []))

-- the change behind so many items and the fewest more, of so many at most; or there is none
abbrev pub IsFirstMore : ℕ → List (Name × Kind) → Tree → ℕ → ℕ → Option Proc → Type 0
IsFirstMore n S l front most None = (k : ℕ) → k ≤ most → IsUnchanged n S l (front ∷ k ∷ [])
IsFirstMore n S l front most (Some found) =
    (k : ℕ) × IsChange n S (front ∷ k ∷ []) l (tree found) × ((j : ℕ) → j < k → IsUnchanged n S l (front ∷ j ∷ []))

-- the change behind the fewest items and then the fewest more, of so many at most; or there is none
abbrev pub IsFirstBetween : ℕ → List (Name × Kind) → Tree → ℕ → Option Proc → Type 0
IsFirstBetween n S l most None = (i k : ℕ) → i ≤ most → k ≤ most → IsUnchanged n S l (i ∷ k ∷ [])
IsFirstBetween n S l most (Some found) =
    (i : ℕ) × (IsFirstMore n S l i most (Some found)) × ((h k : ℕ) → h < i → k ≤ most → IsUnchanged n S l (h ∷ k ∷ []))

-- the direct result of the law of that number; or it has none
abbrev pub IsDirectResult : ℕ → List (Name × Kind) → Tree → Option Proc → Type 0
IsDirectResult n S l None = (r : Tree) → IsDirect n S l r → ⊥
IsDirectResult n S l (Some found) = IsDirect n S l (tree found)
