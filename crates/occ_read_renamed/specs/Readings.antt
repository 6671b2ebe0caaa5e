-- What one text reads as with two tables of names.
use Rattle.std.specs.Prelude.{ℕ, ◌≡◌, ◌≤◌, List, length, slice_get, Some}
use Rattle.occ_nform.specs.occ_base.declared.names.Name.{Name}
use Rattle.occ_renamed.specs.occ_meaning.Rename.{renamed}
use Rattle.occ_renamed.specs.Renamed.{kinds_renamed, name_renamed}
use Rattle.occ_renamed.specs.Standing.{IsOneForOne}
use Rattle.occ_nform.specs.occ_syntax.declared.scope.Kind.{Kind}
use Rattle.occ_nform.specs.occ_syntax.Tree.{Tree}

-- each text of the one table stands somewhere in the other
abbrev pub StandIn : List (List ℕ) → List (List ℕ) → Type 0
StandIn names other = (i : ℕ) (text : List ℕ) → slice_get names i ≡ Some text → (j : ℕ) × (slice_get other j ≡ Some text)

-- No two numbers have one other number, each text of the one table has its other number in the other, and other numbers lie behind both.
pub record IsRenumbering (f : ℕ → ℕ) (names other : List (List ℕ)) : Type 0 where
  pub one_for_one : IsOneForOne f
  pub texts : (i : ℕ) (text : List ℕ) → slice_get names i ≡ Some text → slice_get other (f i) ≡ Some text
  pub beyond : (i : ℕ) → length names ≤ i → length other ≤ f i

-- The second program is the first one, under the numbers that its names' texts have in the second table.
pub record AreRenamed (names other : List (List ℕ)) (n m : Name) (ps qs : List (Name × Kind)) (p q : Tree) (ks ls : List ℕ) : Type 0 where
  pub number : ℕ → ℕ
  pub numbering : IsRenumbering number names other
  pub name : m ≡ name_renamed number n
  pub params : qs ≡ kinds_renamed number ps
  pub body : q ≡ renamed p number
  pub numbers : ls ≡ ks
