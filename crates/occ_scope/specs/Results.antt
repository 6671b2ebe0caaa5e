use Rattle.std.specs.Prelude.{ℕ, ◌<◌, ◌≡◌, ◌^◌, ◌↔◌, ◌&&◌, Bool, true, List, bit_xor}
use Rattle.std.specs.Int.{bit_at}
use Rattle.occ_node.specs.occ_base.declared.event.Event.{Event}
use Rattle.occ_node.specs.occ_base.declared.names.Name.{Name}
use Rattle.occ_node.specs.World.{IsNode, fails, ends}
use Rattle.occ_node.specs.declared.node.NodeId.{NodeId}
use Rattle.occ_node.specs.declared.world.World.{World}
use Rattle.occ_scope.specs.Silent.{is_off, is_silent}

-- r has those behaviours of p, in an earlier world, that have no event of the channel
pub record IsRestricted (old new : World) (chan : Name) (p r : NodeId) : Type 0 where
  pub known : IsNode new r
  pub silent_fail : (t : List Event) (X : Event → Bool) → fails new r t X ≡ (is_silent chan t && fails old p t (λ e. is_off chan e && X e))
  pub silent_end : (t : List Event) (x : ℕ) → ends new r t x ≡ (is_silent chan t && ends old p t x)

-- after the trace the node can end in an assignment that differs from x in the bits alone
pub record EndsBeside (w : World) (bits : ℕ) (p : NodeId) (t : List Event) (x : ℕ) : Type 0 where
  pub y : ℕ
  pub below : y < 2 ^ 64
  pub ended : ends w p t y ≡ true
  pub same : (k : ℕ) → k < 64 → bit_at bits k ≡ 0 → bit_at y k ≡ bit_at x k

-- r has the behaviours that p had in an earlier world, and the bits take every value in its final states
pub record IsForgotten (old new : World) (bits : ℕ) (p r : NodeId) : Type 0 where
  pub known : IsNode new r
  pub same_fail : (t : List Event) (X : Event → Bool) → fails new r t X ≡ fails old p t X
  pub free_end : (t : List Event) (x : ℕ) → x < 2 ^ 64 → (ends new r t x ≡ true) ↔ EndsBeside old bits p t x

-- r has the behaviours that p had in an earlier world, and the bits are turned in its final states
pub record IsShifted (old new : World) (change : ℕ) (p r : NodeId) : Type 0 where
  pub known : IsNode new r
  pub same_fail : (t : List Event) (X : Event → Bool) → fails new r t X ≡ fails old p t X
  pub turned_end : (t : List Event) (x : ℕ) → x < 2 ^ 64 → ends new r t x ≡ ends old p t (bit_xor x change)
