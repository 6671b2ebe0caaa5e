use Rattle.std.specs.Prelude.{ℕ, ◌<◌, ◌≤◌, ◌≡◌, ◌^◌, true, List, Option, Some, IfSome, length}
use Rattle.std.specs.List.{Contains}
use Rattle.std.specs.List.Sorted.{IsStrictlySortedBy}
use Rattle.std.specs.declared.cmp.Ordering.{Ordering}
use Rattle.occ_dd.specs.Table.{nodes_of}
use Rattle.occ_dd.specs.Store.{has}
use Rattle.occ_dd.specs.declared.set.SetId.{SetId}
use Rattle.occ_dd.specs.declared.store.Store.{Store}
use Rattle.occ_mdd.specs.Value.{value_at}
use Rattle.occ_mdd.specs.declared.map.MapId.{MapId}
use Rattle.occ_mdd.specs.declared.maps.Maps.{Maps}

-- how many numbers a table gave
unfoldable pub maps_of : {L : Type 0} {e : _} {h : _} → Maps L e h → ℕ
maps_of m = length (nodes_of m.table)

-- the table gave the number
abbrev pub IsKnown : {L : Type 0} {e : _} {h : _} → Maps L e h → MapId → Type 0
IsKnown m a = a.0 < maps_of m

-- the value of a function at an assignment
unfoldable pub value : {L : Type 0} {e : _} {h : _} → Maps L e h → MapId → ℕ → Option L
value m a x = value_at (nodes_of m.table) a.0 x

-- each number that the old table gave keeps its function
pub record Keeps {L : Type 0} {e : _} {h : _} (old new : Maps L e h) : Type 0 where
  pub more : maps_of old ≤ maps_of new
  pub same : (a : MapId) (x : ℕ) → IsKnown old a → value new a x ≡ value old a x

-- r is the function f
pub record IsMap {L : Type 0} {e : _} {h : _} (m : Maps L e h) (r : MapId) (f : ℕ → Option L) : Type 0 where
  pub known : IsKnown m r
  pub values : (x : ℕ) → value m r x ≡ f x

-- each label of a function passes a test
abbrev pub HasLabels : {L : Type 0} {e : _} {h : _} → Maps L e h → MapId → (L → Type 0) → Type 0
HasLabels m a passes = (x : ℕ) → x < 2 ^ 64 → IfSome (value m a x) passes

-- the values of r stand in a relation to those of a and b
pub record IsRelated {L : Type 0} {e : _} {h : _} (old new : Maps L e h) (a b r : MapId) (relates : Option L → Option L → Option L → Type 0) : Type 0 where
  pub known : IsKnown new r
  pub related : (x : ℕ) → relates (value old a x) (value old b x) (value new r x)

-- a function has the label at some member of a set
abbrev pub IsLabelOn : {L : Type 0} {e : _} {h : _} → Maps L e h → MapId → Store → SetId → L → Type 0
IsLabelOn m a s set l = (x : ℕ) × (x < 2 ^ 64) × (has s set x ≡ true) × (value m a x ≡ Some l)

-- the labels of a function on a set, each once, in increasing order
pub record AreLabelsOn {L : Type 0} {e : _} {h : _} (m : Maps L e h) (a : MapId) (s : Store) (set : SetId) (cmp : L → L → Ordering) (labels : List L) : Type 0 where
  pub met : (l : L) → Contains labels l → IsLabelOn m a s set l
  pub all : (l : L) → IsLabelOn m a s set l → Contains labels l
  pub increasing : IsStrictlySortedBy cmp labels

-- equal functions have equal numbers
pub record IsCanonical {L : Type 0} {e : _} {h : _} (m : Maps L e h) : Type 0 where
  pub one : (a b : MapId) → IsKnown m a → IsKnown m b → ((x : ℕ) → x < 2 ^ 64 → value m a x ≡ value m b x) → a ≡ b
