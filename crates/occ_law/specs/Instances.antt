-- What a law makes of a part at one place, as a function answers it.
use Rattle.std.specs.Prelude.{ℕ, ◌≡◌, List, [], ◌∷◌, Option, None, Some}
use Rattle.occ_bits.specs.occ_base.declared.names.Name.{Name}
use Rattle.occ_law.specs.declared.place.Place.{Place}
use Rattle.occ_law.specs.declared.place.Place.TheVariants.{Whole, Behind, Between}
use Rattle.occ_law.specs.RuleTable.{DIRECT_SIDES}
use Rattle.occ_bits.specs.occ_syntax.declared.proc.Proc.{Proc}
use Rattle.occ_bits.specs.occ_syntax.declared.scope.Kind.{Kind}
use Rattle.occ_bits.specs.occ_syntax.Tree.{Tree}
use Rattle.occ_bits.specs.occ_syntax.View.{tree}

-- the sizes of the lists in front of a place
abbrev pub sizes : Place → List ℕ
sizes Whole = []
sizes (Behind k) = k ∷ []
sizes (Between j k) = j ∷ k ∷ []

-- the size of the only list; or there isn't one list
abbrev pub IsSize : List ℕ → Option ℕ → Type 0
IsSize ks None = (k : ℕ) → ks ≡ k ∷ [] → ⊥
IsSize ks (Some k) = ks ≡ k ∷ []

-- The right side of the one instance of two sides at a place; or there is no instance.
abbrev pub IsOnly : (Tree → Tree → Type 0) → Tree → Option Proc → Type 0
IsOnly D l None = (r : Tree) → D l r → ⊥
IsOnly D l (Some found) = D l (tree found) × ((r : Tree) → D l r → r ≡ tree found)

-- the right side of the instance of the law of that number at a place of a part in a scope; or there is none
abbrev pub IsInstance : ℕ → List (Name × Kind) → Tree → Place → Option Proc → Type 0
IsInstance n S l place found = IsOnly (DIRECT_SIDES n S (sizes place)) l found
