use Rattle.std.specs.Prelude.{ℕ, ◌+◌, ◌<◌, ◌≤◌, ◌≡◌, ◌⊎◌, true, List, Option, Some, length, max}
use Rattle.std.specs.List.{Contains}
use Rattle.occ_dd.specs.Memo.{recalled}
use Rattle.occ_dd.specs.Diagram.{depth_of, IsPart}
use Rattle.occ_dd.specs.declared.memo.Call.{Call}
use Rattle.occ_dd.specs.declared.memo.Memo.{Memo}
use Rattle.occ_dd.specs.declared.node.Node.{Node}
use Rattle.occ_dd.specs.Store.{IsKnown, has, depth, Keeps}
use Rattle.occ_dd.specs.declared.set.SetId.{SetId}
use Rattle.occ_dd.specs.declared.store.Store.{Store}
use Rattle.occ_mdd.specs.Chosen.{id_of, IsSetPart}
use Rattle.occ_mdd.specs.Value.{value_at}
use Rattle.occ_mdd.specs.declared.collect.Halves.{Halves}

-- function a has the label somewhere on the set
abbrev pub IsMet : {L : Type 0} → List (Node (Option L)) → Store → ℕ → ℕ → L → Type 0
IsMet ns s set a l = (x : ℕ) × (has s (id_of set) x ≡ true) × (value_at ns a x ≡ Some l)

-- every label that function a has on the set is among those found
pub record IsSeen {L : Type 0} (ns : List (Node (Option L))) (s : Store) (found : List L) (set a : ℕ) : Type 0 where
  pub set_known : IsKnown s (id_of set)
  pub known : a < length ns
  pub all : (l : L) → IsMet ns s set a l → Contains found l

-- the pairs that were visited are done
abbrev pub AreSeen : {L : Type 0} → List (Node (Option L)) → Store → List L → Memo → Type 0
AreSeen ns s found seen = (k : Call) (r : ℕ) → recalled seen k ≡ Some r → IsSeen ns s found k.first k.second

-- what a visit of a set and a function may leave: more labels found, all of them met there
pub record Visits {L : Type 0} (ns : List (Node (Option L))) (s t : Store) (old new : List L) (seen : Memo) (set a : ℕ) : Type 0 where
  pub sets : Keeps s t
  pub kept : (l : L) → Contains old l → Contains new l
  pub only : (l : L) → Contains new l → Contains old l ⊎ IsMet ns t set a l
  pub right : AreSeen ns t new seen

-- a set and a function where a bit that matters to one of them is 0 and where it is 1; no higher bit matters
pub record AreHalves {T : Type 0} (ns : List (Node T)) (s : Store) (set : SetId) (a : ℕ) (h : Halves) : Type 0 where
  pub top : h.bit + 1 ≤ max (depth s set) (depth_of ns a)
  pub low_set : IsSetPart s h.set_low set h.bit 0
  pub high_set : IsSetPart s h.set_high set h.bit 1
  pub low_part : IsPart ns h.low a h.bit 0
  pub high_part : IsPart ns h.high a h.bit 1
