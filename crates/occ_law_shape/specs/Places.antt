-- Two lists that are equal up to a place, and related from there on.
use Rattle.occ_syntax.specs.Tree.{Tree, Trees, and_tree}

pub data Somewhere (J : Trees → Trees → Type 0) : Trees → Trees → Type 0 where
  here : {ps us : Trees} → J ps us → Somewhere J ps us
  behind : {p : Tree} {ps us : Trees} → Somewhere J ps us → Somewhere J (and_tree p ps) (and_tree p us)
