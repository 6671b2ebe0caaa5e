-- Maps whose nodes are those of another map with bits of their final states turned, or of all values of some bits.
use Rattle.std.specs.Prelude.{ℕ, ◌<◌, ◌≤◌, ◌≡◌, ◌^◌, ◌↔◌, ◌⊎◌, Bool, true, List, Some}
use Rattle.std.specs.Int.{bit_at}
use Rattle.occ_syntax.specs.occ_base.declared.event.Event.{Event}
use Rattle.occ_bits.specs.occ_dd.Assignment.{turned}
use Rattle.occ_weave.specs.occ_mdd.Maps.{value}
use Rattle.occ_weave.specs.occ_mdd.declared.map.MapId.{MapId}
use Rattle.occ_weave.specs.occ_node.World.{fails, ends}
use Rattle.occ_weave.specs.occ_node.declared.node.NodeId.{NodeId}
use Rattle.occ_weave.specs.occ_node.declared.world.World.{World}
use Rattle.occ_norm_frame.specs.Lifted.{IsTurned}

-- at each assignment the node of r is that of the map, with those bits of its final states turned
pub record IsChanged (w : World) (change : ℕ → ℕ) (map r : MapId) : Type 0 where
  pub changed : (x : ℕ) (a b : NodeId) → x < 2 ^ 64 → value w.maps map x ≡ Some a → value w.maps r x ≡ Some b → IsTurned w (change x) a b

-- the assignments have the same bits but from `first` to below `end`
abbrev pub AgreeOutside : ℕ → ℕ → ℕ → ℕ → Type 0
AgreeOutside first end x y = (k : ℕ) → k < 64 → (k < first) ⊎ (end ≤ k) → bit_at x k ≡ bit_at y k

-- the map's node behaves so at an assignment that differs from x in these bits at most
pub record Somewhere (w : World) (map : MapId) (first end : ℕ) (x : ℕ) (behaves : NodeId → Bool) : Type 0 where
  pub y : ℕ
  pub m : NodeId
  pub below : y < 2 ^ 64
  pub agree : AgreeOutside first end x y
  pub leads : value w.maps map y ≡ Some m
  pub behaved : behaves m ≡ true

-- at each assignment the node of r has the behaviours of the map's nodes of all values of these bits
pub record IsFreed (w : World) (first end : ℕ) (map r : MapId) : Type 0 where
  pub freed_fails : (x : ℕ) (a : NodeId) → x < 2 ^ 64 → value w.maps r x ≡ Some a → (t : List Event) (X : Event → Bool)
      → (fails w a t X ≡ true) ↔ Somewhere w map first end x (λ m. fails w m t X)
  pub freed_ends : (x : ℕ) (a : NodeId) → x < 2 ^ 64 → value w.maps r x ≡ Some a → (t : List Event) (z : ℕ) → z < 2 ^ 64
      → (ends w a t z ≡ true) ↔ Somewhere w map first end x (λ m. ends w m t z)

-- those of the lowest bits, so many, that aren't in `bits` don't matter to the map
pub record IsSupport (w : World) (count : ℕ) (map : MapId) (bits : ℕ) : Type 0 where
  pub within : bits < 2 ^ count
  pub others : (k : ℕ) → k < count → bit_at bits k ≡ 0 → (x : ℕ) → value w.maps map (turned x k) ≡ value w.maps map x
