-- The processes round a part.
use Rattle.std.specs.Prelude.{ℕ, ◌≡◌, List, [], ◌∷◌, IsSome}
use Rattle.std.specs.List.{AllByRecursion}
use Rattle.occ_usage.specs.occ_meaning.Context.{child, put, with_child}
use Rattle.occ_script_lines.specs.declared.putting.Round.{Round}
use Rattle.occ_syntax.specs.Tree.{Tree}
use Rattle.occ_syntax.specs.View.{tree}

-- a process stands in the place of a part of others, of which the first is outermost
abbrev pub within : List Round → Tree → Tree
within [] p = p
within (r ∷ round) p = with_child (tree r.whole) r.place (within round p)

-- a process has a part at the place
abbrev pub HasPart : Round → Type 0
HasPart r = IsSome (child (tree r.whole) r.place)

-- these are the processes round the part at a path: whatever comes there comes into them
pub record AreRound (round : List Round) (path : List ℕ) (p : Tree) : Type 0 where
  pub have : AllByRecursion HasPart round
  pub put_in : (r : Tree) → within round r ≡ put path p r
