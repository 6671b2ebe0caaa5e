-- The parts of a SEQ before a place, at it and behind it.
use Rattle.std.specs.Prelude.{ℕ, ◌≡◌, List, [], ◌∷◌, Option, None, Some}
use Rattle.occ_syntax.specs.Tree.{Tree, seq, Trees, and_tree}
use Rattle.occ_syntax.specs.View.{tree, trees}
use Rattle.occ_law_scope.specs.occ_meaning.Parallel.{all_of}
use Rattle.occ_law_seq.specs.occ_law.Lists.{size}
use Rattle.occ_law_seq.specs.occ_law_shape.declared.lists.Here.{Here}

-- a SEQ has so many parts, then that one, and then those behind it
pub record IsSplit (ks : List ℕ) (l : Tree) (ps : Trees) (p : Tree) (qs : Trees) : Type 0 where
  pub sizes : ks ≡ size ps ∷ []
  pub whole : l ≡ seq (all_of ps (and_tree p qs))

-- the parts before the place, at it and behind it; or there is none at it
abbrev pub IsChosen : List ℕ → Tree → Option Here → Type 0
IsChosen ks l None = (ps : Trees) (p : Tree) (qs : Trees) → IsSplit ks l ps p qs → ⊥
IsChosen ks l (Some found) = IsSplit ks l (trees found.before.now) (tree found.part.now) (trees found.behind.now)
