-- What par-flat and par-skip change at one place of a list, from that place on.
use Rattle.std.specs.Prelude.{List, Option, None, Some}
use Rattle.std.specs.Borrow.{Bor}
use Rattle.occ_syntax.specs.declared.proc.Proc.{Proc}
use Rattle.occ_syntax.specs.Tree.{Tree, skip, par, Trees, no_tree, and_tree}
use Rattle.occ_syntax.specs.View.{trees}
use Rattle.occ_law_shape.specs.occ_meaning.Parallel.{all_of}
use Rattle.occ_law_par.specs.declared.places.Leaving.{Leaving}
use Rattle.occ_law_par.specs.declared.places.Leaving.TheVariants as leaving

-- a part that goes, and the parts that take its place
pub data Goes : Leaving → Tree → Trees → Type 0 where
  par_goes : (qs : Trees) → Goes leaving.Par (par qs) qs
  skip_goes : Goes leaving.Skip skip no_tree

-- the first part of a list goes
pub data GoesHere (g : Leaving) : Trees → Trees → Type 0 where
  goes_here : (p : Tree) (qs rs : Trees) → Goes g p qs → GoesHere g (and_tree p rs) (all_of qs rs)

-- where nothing is left, nothing goes
pub nothing_goes_at_end : (g : Leaving) (us : Trees) → GoesHere g no_tree us → ⊥
nothing_goes_at_end g us j = elim j [ ]

-- the parts that take the place of one that goes; or it doesn't go
abbrev pub IsReplaced : Leaving → Tree → Option (Bor (List Proc)) → Type 0
IsReplaced g p None = (qs : Trees) → Goes g p qs → ⊥
IsReplaced g p (Some found) = Goes g p (trees found.now)
