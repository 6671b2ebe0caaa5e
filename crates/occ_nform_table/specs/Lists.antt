-- What belongs to a list, and lists that increase strictly.
use Rattle.std.specs.Prelude.{◌≡◌, Bool, true, ◌⊎◌, List, [], ◌∷◌, Option, Some}
use Rattle.occ_nform_table.specs.Judging.{follows}

abbrev pub In : {A : Type 0} → A → List A → Type 0
In x [] = ⊥
In x (y ∷ ys) = (x ≡ y) ⊎ In x ys

-- each item is less than the one behind it, and the item before the list, if there is one, less than the first
abbrev pub Chain : {A : Type 0} → (A → A → Bool) → Option A → List A → Type 0
Chain less before [] = Unit {0}
Chain less before (x ∷ xs) = (follows less before x ≡ true) × Chain less (Some x) xs
