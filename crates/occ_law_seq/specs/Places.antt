-- What seq-flat, seq-skip and seq-stop change at one place of a list, from that place on.
use Rattle.std.specs.Prelude.{◌≡◌, Bool, true, false}
use Rattle.occ_syntax.specs.Tree.{Tree, skip, stop, seq, Trees, no_tree, and_tree}
use Rattle.occ_law_shape.specs.occ_meaning.Parallel.{all_of, one}

pub data FlatHere : Trees → Trees → Type 0 where
  flat_here : (qs rs : Trees) → FlatHere (and_tree (seq qs) rs) (all_of qs rs)

abbrev pub is_skip : Tree → Bool
is_skip skip = true
is_skip p = false

abbrev pub begins_with_skip : Trees → Bool
begins_with_skip no_tree = false
begins_with_skip (and_tree p ps) = is_skip p

-- the SKIP that leaves is the last of its row
pub data SkipHere : Trees → Trees → Type 0 where
  skip_here : (qs : Trees) → begins_with_skip qs ≡ false → SkipHere (and_tree skip qs) qs

pub data StopHere : Trees → Trees → Type 0 where
  stop_here : (qs : Trees) → StopHere (and_tree stop qs) (one stop)

-- where nothing is left, there is no such place
pub no_flat_at_end : (us : Trees) → FlatHere no_tree us → ⊥
no_flat_at_end us j = elim j [ ]

pub no_skip_at_end : (us : Trees) → SkipHere no_tree us → ⊥
no_skip_at_end us j = elim j [ ]

pub no_stop_at_end : (us : Trees) → StopHere no_tree us → ⊥
no_stop_at_end us j = elim j [ ]
