use Rattle.std.specs.Prelude.{ℕ, zero, suc, ◌+◌, ◌<◌, ◌≤◌, ◌≡◌, ◌≢◌, ◌⊎◌, ◌==◌, ◌++◌, ◌∷◌, ◌^◌, [], List, Option, Some, None, length, slice_get, if◌then◌else◌}
use Rattle.std.specs.Int.{bit_at}
use Rattle.occ_dd.specs.Assignment.{turned}
use Rattle.occ_dd.specs.Memo.{recalled}
use Rattle.occ_dd.specs.declared.memo.Call.{Call}
use Rattle.occ_dd.specs.declared.memo.Memo.{Memo}
use Rattle.occ_dd.specs.declared.node.Decision.{Decision}
use Rattle.occ_dd.specs.declared.node.Node.{Node}
use Rattle.occ_dd.specs.declared.node.Node.TheVariants.{Leaf, Branch}

-- one more than the bit that a node reads, or 0 for a terminal
abbrev pub depth_of_node : {T : Type 0} → Option (Node T) → ℕ
depth_of_node None = 0
depth_of_node (Some (Leaf label)) = 0
depth_of_node (Some (Branch d)) = d.bit + 1

-- the side of a decision that an assignment takes
abbrev pub side : Decision → ℕ → ℕ
side d x = if bit_at x d.bit == 1 then d.high else d.low

-- where node i leads at an assignment: a terminal leads to itself
abbrev pub next : {T : Type 0} → Option (Node T) → ℕ → ℕ → ℕ
next None i x = i
next (Some (Leaf label)) i x = i
next (Some (Branch d)) i x = side d x

abbrev pub label_of_node : {T : Type 0} → Option (Node T) → Option T
label_of_node None = None
label_of_node (Some (Leaf label)) = Some label
label_of_node (Some (Branch d)) = None

-- the depth of node i: no bit from there on matters to its function
unfoldable pub depth_of : {T : Type 0} → List (Node T) → ℕ → ℕ
depth_of ns i = depth_of_node (slice_get ns i)

-- where n steps lead from node i
unfoldable pub walk : {T : Type 0} → List (Node T) → ℕ → ℕ → ℕ → ℕ
walk ns zero i x = i
walk ns (suc n) i x = walk ns n (next (slice_get ns i) i x) x

-- the terminal to which node i leads at an assignment of 64 bits
unfoldable pub end_of : {T : Type 0} → List (Node T) → ℕ → ℕ → ℕ
end_of ns i x = walk ns 64 i x

-- the label of terminal i
unfoldable pub label_of : {T : Type 0} → List (Node T) → ℕ → Option T
label_of ns i = label_of_node (slice_get ns i)

-- the sides of a decision are other nodes, and read lower bits alone
pub record IsDecision {T : Type 0} (ns : List (Node T)) (d : Decision) : Type 0 where
  pub bit : d.bit < 64
  pub low : d.low < length ns
  pub high : d.high < length ns
  pub low_depth : depth_of ns d.low ≤ d.bit
  pub high_depth : depth_of ns d.high ≤ d.bit
  pub differ : d.low ≢ d.high

-- an ordered reduced diagram in which no node stands twice
pub record IsDiagram {T : Type 0} (ns : List (Node T)) : Type 0 where
  pub decisions : (i : ℕ) (d : Decision) → slice_get ns i ≡ Some (Branch d) → IsDecision ns d
  pub single : (i j : ℕ) (n : Node T) → slice_get ns i ≡ Some n → slice_get ns j ≡ Some n → i ≡ j

-- every number that was given keeps its node
pub record Keeps {T : Type 0} (ms ns : List (Node T)) : Type 0 where
  pub more : length ms ≤ length ns
  pub same : (i : ℕ) → i < length ms → slice_get ns i ≡ slice_get ms i

-- the node is put last where it isn't there, and else all stays
abbrev pub Interns : {T : Type 0} → List (Node T) → List (Node T) → Node T → Type 0
Interns ms ns n = (ns ≡ ms) ⊎ ((ns ≡ ms ++ n ∷ []) × ((i : ℕ) → slice_get ms i ≡ Some n → ⊥))

-- r is `low` where the bit is 0 and `high` where it is 1
pub record IsSplit {T : Type 0} (ns : List (Node T)) (r bit low high : ℕ) : Type 0 where
  pub known : r < length ns
  pub depth : depth_of ns r ≤ bit + 1
  pub ends : (x : ℕ) → end_of ns r x ≡ (if bit_at x bit == 1 then end_of ns high x else end_of ns low x)

-- r is what i is where the bit is v, and reads lower bits alone
pub record IsPart {T : Type 0} (ns : List (Node T)) (r i bit v : ℕ) : Type 0 where
  pub known : r < length ns
  pub depth : depth_of ns r ≤ bit
  pub ends : (x : ℕ) → bit_at x bit ≡ v → end_of ns r x ≡ end_of ns i x

-- r is at each assignment what i is where the bit is turned
pub record IsTurned {T : Type 0} (ns : List (Node T)) (i bit r : ℕ) : Type 0 where
  pub origin : i < length ns
  pub known : r < length ns
  pub depth : depth_of ns r ≤ depth_of ns i
  pub ends : (x : ℕ) → end_of ns r x ≡ end_of ns i (turned x bit)

-- what is remembered of flips is right
abbrev pub AreTurned : {T : Type 0} → List (Node T) → Memo → Type 0
AreTurned ns memo = (k : Call) (r : ℕ) → recalled memo k ≡ Some r → IsTurned ns k.first k.second r

-- equal functions have equal numbers
pub record IsCanonical {T : Type 0} (ns : List (Node T)) : Type 0 where
  pub one : (i j : ℕ) → i < length ns → j < length ns → ((x : ℕ) → x < 2 ^ 64 → end_of ns i x ≡ end_of ns j x) → i ≡ j
