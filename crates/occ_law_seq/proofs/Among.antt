-- Names among names.
use Rattle.std.proofs.Common.{◌≡◌, ◌==◌, ◌||◌, List, [], ◌∷◌, refl}
use Rattle.std.specs.List.{list_any}
use Rattle.occ_syntax.specs.occ_base.declared.names.Name.{Name}
use Rattle.occ_law_shape.proofs.from_meaning.Facts.{same_turned}
use Rattle.occ_syntax.specs.Names.{is_in}
use Rattle.occ_syntax.specs.View.{numbers}

-- a name is among names where its number is among theirs
pub name_in : (names : List Name) (n : Name) → list_any (λ (k : Name). k.0 == n.0) names ≡ is_in (numbers names) n.0
name_in [] n = refl
name_in (k ∷ names) n = λ i. same_turned k.0 n.0 i || name_in names n i
