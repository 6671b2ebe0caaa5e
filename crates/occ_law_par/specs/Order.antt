-- Lists of parts in any order: a part put into a list, and taken out of it.
use Rattle.std.specs.Prelude.{ℕ, ◌≡◌, ◌<◌, Bool, true, false, List, Option, None, Some, length, map, slice_index_or}
use Rattle.std.specs.Borrow.{Bor}
use Rattle.occ_syntax.specs.declared.proc.Proc.{Proc}
use Rattle.occ_syntax.specs.Tree.{Tree, Trees, and_tree}
use Rattle.occ_syntax.specs.View.{tree, trees}

-- the parts that references point to
abbrev pub referred : List (Bor Proc) → Trees
referred parts = trees (map (λ part. part.now) parts)

-- the second list is the first one with p put in somewhere
pub data Put (p : Tree) : Trees → Trees → Type 0 where
  put_first : {q : Tree} {ps : Trees} → q ≡ p → Put p ps (and_tree q ps)
  put_behind : {q : Tree} {ps qs : Trees} → Put p ps qs → Put p (and_tree q ps) (and_tree q qs)

-- p is taken out of a list, which leaves the second one; or it isn't in the list
abbrev pub IsCancelled : Tree → Trees → Trees → Bool → Type 0
IsCancelled p before after true = Put p after before
IsCancelled p before after false = (qs : Trees) → Put p qs before → ⊥

-- p stands at this place of a list; or at none
abbrev pub IsPlaced : Tree → List (Bor Proc) → Option ℕ → Type 0
IsPlaced p list None = (k : ℕ) (d : Bor Proc) → k < length list → tree (slice_index_or list k d).now ≡ p → ⊥
IsPlaced p list (Some place) = (place < length list) × ((d : Bor Proc) → tree (slice_index_or list place d).now ≡ p)
