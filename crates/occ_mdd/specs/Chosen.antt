use Rattle.std.specs.Prelude.{ℕ, ◌+◌, ◌<◌, ◌≤◌, ◌≡◌, List, Some, length, max, if◌then◌else◌}
use Rattle.std.specs.Int.{bit_at}
use Rattle.occ_dd.specs.Memo.{recalled}
use Rattle.occ_dd.specs.Diagram.{depth_of, end_of, IsPart}
use Rattle.occ_dd.specs.Diagram.{Keeps as KeepsNodes}
use Rattle.occ_dd.specs.declared.memo.Call.{Call}
use Rattle.occ_dd.specs.declared.memo.Memo.{Memo}
use Rattle.occ_dd.specs.declared.node.Node.{Node}
use Rattle.occ_dd.specs.Store.{IsKnown, Keeps, has, depth}
use Rattle.occ_dd.specs.declared.set.SetId.{SetId}
use Rattle.occ_dd.specs.declared.store.Store.{Store}
use Rattle.occ_mdd.specs.declared.choose.Choice.{Choice}
use Rattle.occ_mdd.specs.declared.choose.Choice.TheVariants.{Made, Split}

-- A choice is the function that is the call's second on the set that is its first, and its third elsewhere.

abbrev pub id_of : ℕ → SetId
id_of n = record { 0 = n }

-- a table and a store keep what they had
pub record Grown {T : Type 0} (ms ns : List (Node T)) (s t : Store) : Type 0 where
  pub nodes : KeepsNodes ms ns
  pub sets : Keeps s t

-- the set and the functions of a choice are there
pub record IsAsked {T : Type 0} (ns : List (Node T)) (s : Store) (call : Call) : Type 0 where
  pub set : IsKnown s (id_of call.first)
  pub first : call.second < length ns
  pub second : call.third < length ns

-- the greatest depth of the set and the functions of a choice
abbrev pub greatest_depth : {T : Type 0} → List (Node T) → Store → Call → ℕ
greatest_depth ns s call = max (depth s (id_of call.first)) (max (depth_of ns call.second) (depth_of ns call.third))

-- r is the choice
pub record IsChosen {T : Type 0} (ns : List (Node T)) (s : Store) (call : Call) (r : ℕ) : Type 0 where
  pub asked : IsAsked ns s call
  pub known : r < length ns
  pub depth_bound : depth_of ns r ≤ greatest_depth ns s call
  pub ends : (x : ℕ) → end_of ns r x ≡ (if has s (id_of call.first) x then end_of ns call.second x else end_of ns call.third x)

-- what is remembered of choices is right
abbrev pub AreChosen : {T : Type 0} → List (Node T) → Store → Memo → Type 0
AreChosen ns s memo = (k : Call) (r : ℕ) → recalled memo k ≡ Some r → IsChosen ns s k r

-- p is what the set is where the bit is v, and depends on lower bits alone
pub record IsSetPart (s : Store) (p set : SetId) (bit v : ℕ) : Type 0 where
  pub known : IsKnown s p
  pub shallow : depth s p ≤ bit
  pub members : (x : ℕ) → bit_at x bit ≡ v → has s p x ≡ has s set x

-- the set and the functions of one choice are those of another where the bit is v
pub record IsSide {T : Type 0} (ns : List (Node T)) (s : Store) (side call : Call) (bit v : ℕ) : Type 0 where
  pub set : IsSetPart s (id_of side.first) (id_of call.first) bit v
  pub first : IsPart ns side.second call.second bit v
  pub second : IsPart ns side.third call.third bit v

-- a bit that matters to a choice, the greatest that does, and the choices on its two sides
pub record IsSplit {T : Type 0} (ns : List (Node T)) (s : Store) (call : Call) (bit : ℕ) (low high : Call) : Type 0 where
  pub within : bit < 64
  pub top : bit + 1 ≤ greatest_depth ns s call
  pub low_side : IsSide ns s low call bit 0
  pub high_side : IsSide ns s high call bit 1

-- a choice is made, or it is split
pub record IsHalved {T : Type 0} (ns : List (Node T)) (s : Store) (call : Call) (choice : Choice) : Type 0 where
  pub made : (r : ℕ) → choice ≡ Made r → IsChosen ns s call r
  pub split : (bit : ℕ) (low high : Call) → choice ≡ Split bit low high → IsSplit ns s call bit low high

-- no bit above this one matters to a set that depends on bit `top` at most, or to two functions
pub record IsTop {T : Type 0} (ns : List (Node T)) (top a b bit : ℕ) : Type 0 where
  pub within : bit < 64
  pub set : top ≤ bit
  pub first : depth_of ns a ≤ bit + 1
  pub second : depth_of ns b ≤ bit + 1
  pub top_is : bit + 1 ≤ max (top + 1) (max (depth_of ns a) (depth_of ns b))
