-- The choices of an IF before a place, at it and behind it.
use Rattle.std.specs.Prelude.{ℕ, ◌≡◌, List, [], ◌∷◌, Option, None, Some}
use Rattle.occ_syntax.specs.Tree.{Exp, Tree, select, Cases, and_case}
use Rattle.occ_syntax.specs.View.{cases, exp, tree}
use Rattle.occ_law_shape.specs.occ_law.Lists.{all_cases, count}
use Rattle.occ_law_if.specs.declared.chosen.Here.{Here}
use Rattle.occ_law_if.specs.declared.chosen.Halves.{Halves}
use Rattle.occ_law_if.specs.declared.choices.Front.{Front}

-- the first choice as a list, with those behind it
abbrev pub in_front : Front → Cases
in_front found = and_case (exp found.condition.now) (tree found.process.now) (cases found.behind.now)

-- an IF has two lists of choices, of which the first has that size
pub record IsSplit (ks : List ℕ) (l : Tree) (cs ds : Cases) : Type 0 where
  pub size : ks ≡ count cs ∷ []
  pub whole : l ≡ select (all_cases cs ds)

-- the choices before the place and from it on; or there is no such place
abbrev pub IsParted : List ℕ → Tree → Option Halves → Type 0
IsParted ks l None = (cs ds : Cases) → IsSplit ks l cs ds → ⊥
IsParted ks l (Some found) = IsSplit ks l (cases found.before.now) (cases found.rest.now)

-- the choices before the place, at it and behind it; or there is none at it
abbrev pub IsChosen : List ℕ → Tree → Option Here → Type 0
IsChosen ks l None = (cs ds : Cases) (b : Exp) (p : Tree) → IsSplit ks l cs (and_case b p ds) → ⊥
IsChosen ks l (Some found) = IsSplit ks l (cases found.before.now) (in_front found.first)
