-- Initial states as they are grouped by rows, one state after the other.
use Rattle.std.specs.Prelude.{ℕ, ◌≡◌, ◌<◌, List, [], ◌∷◌, ◌++◌, length, get_or, set}
use Rattle.occ_syntax.specs.occ_base.declared.names.Name.{Name}
use Rattle.occ_syntax.specs.declared.scope.Kind.{Kind}
use Rattle.occ_draw.specs.Pictures.{states_to}

-- the states that lead to each row
abbrev pub Groups : Type 0
Groups = List (List (List (Name × ℕ)))

-- groups with a state more at the end of the one of a row, where there is such a row
abbrev pub with_state : Groups → ℕ → List (Name × ℕ) → Groups
with_state groups row state = set groups row (get_or groups row [] ++ state ∷ [])

-- for each of so many rows the states that lead to it, where these are the rows that the states lead to
pub record AreGroups (params : List (Name × Kind)) (rows : List ℕ) (count : ℕ) (groups : Groups) : Type 0 where
  pub many : length groups ≡ count
  pub lead : (n : ℕ) → n < count → get_or groups n [] ≡ states_to params n 0 rows
