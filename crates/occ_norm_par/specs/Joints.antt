-- Maps of processes that say the values of what they write, with what follows them, where the states have been split on all
-- bits from some bit on.
use Rattle.std.specs.Prelude.{ℕ, zero, suc, ◌<◌, ◌≤◌, ◌≡◌, ◌^◌, ◌==◌, ◌↔◌, ◌⊎◌, ◌++◌, Bool, true, List, Option, Some, bit_or, if◌then◌else◌}
use Rattle.std.specs.Int.{bit_at}
use Rattle.occ_syntax.specs.occ_base.declared.event.Event.{Event}
use Rattle.occ_norm_frame.specs.occ_dd.Assignment.{with_bit}
use Rattle.occ_norm_frame.specs.occ_dd.Memo.{recalled}
use Rattle.occ_norm_frame.specs.occ_dd.declared.memo.Call.{Call}
use Rattle.occ_norm_frame.specs.occ_dd.declared.memo.Memo.{Memo}
use Rattle.occ_norm_frame.specs.occ_mdd.Maps.{value}
use Rattle.occ_norm_frame.specs.occ_mdd.declared.map.MapId.{MapId}
use Rattle.occ_norm_frame.specs.occ_node.World.{fails, ends}
use Rattle.occ_norm_frame.specs.occ_node.declared.node.NodeId.{NodeId}
use Rattle.occ_norm_frame.specs.occ_node.declared.world.World.{World}
use Rattle.occ_norm_frame.specs.occ_follow.Sequence.{HasNodes}
use Rattle.occ_norm_frame.specs.Alone.{IsEnding, except}
use Rattle.occ_norm_frame.specs.Kept.{map_id}
use Rattle.occ_norm_par.specs.declared.joint.Joint.{Joint}

-- An end z of processes that has, in place of a bit that matters to what follows and that they don't write, the bit before: v.
abbrev pub stepped : Joint → ℕ → ℕ → ℕ → ℕ
stepped joint bit v z = if bit_at joint.needed bit == 1 then (if bit_at joint.written bit == 1 then z else with_bit z bit v) else z

-- the end z of processes from a state x with that done to the lowest bits, so many
unfoldable pub image : Joint → ℕ → ℕ → ℕ → ℕ
image joint zero x z = z
image joint (suc bit) x z = stepped joint bit (bit_at x bit) (image joint bit x z)

-- at each end r has what `next` has where that is done to the bit
pub record IsStepped (w : World) (joint : Joint) (bit v : ℕ) (next r : MapId) : Type 0 where
  pub before : HasNodes w next
  pub after : HasNodes w r
  pub same : (z : ℕ) → value w.maps r z ≡ value w.maps next (stepped joint bit v z)

-- after a first part of the trace the node has ended, from the state x, and what follows behaves so with the rest
pub record Joins (w : World) (joint : Joint) (left x : ℕ) (a : NodeId) (next : MapId) (behaves : NodeId → List Event → Bool) (t : List Event) : Type 0 where
  pub t1 : List Event
  pub t2 : List Event
  pub z : ℕ
  pub m : NodeId
  pub whole : t ≡ t1 ++ t2
  pub below : z < 2 ^ 64
  pub ended : ends w a t1 z ≡ true
  pub leads : value w.maps next (image joint left x z) ≡ Some m
  pub behaved : behaves m t2 ≡ true

-- from a state x the node `to` is the node `from`, and then what follows
pub record IsJointAt (w : World) (joint : Joint) (left x : ℕ) (from : Option NodeId) (next : MapId) (to : Option NodeId) : Type 0 where
  pub joint_fails : (a b : NodeId) → from ≡ Some a → to ≡ Some b → (t : List Event) (X : Event → Bool)
      → (fails w b t X ≡ true) ↔ ((fails w a t X ≡ true) ⊎ Joins w joint left x a next (λ m u. fails w m u X) t)
  pub joint_ends : (a b : NodeId) → from ≡ Some a → to ≡ Some b → (t : List Event) (y : ℕ) → y < 2 ^ 64
      → (ends w b t y ≡ true) ↔ Joins w joint left x a next (λ m u. ends w m u y) t

-- at each of some states the node of r is that of the map, and then what follows
pub record IsJointWhere (w : World) (joint : Joint) (left : ℕ) (here : ℕ → Type 0) (map next r : MapId) : Type 0 where
  pub few : left ≤ 64
  pub first : HasNodes w map
  pub second : HasNodes w next
  pub known : HasNodes w r
  pub each : (x : ℕ) → x < 2 ^ 64 → here x → IsJointAt w joint left x (value w.maps map x) next (value w.maps r x)

abbrev pub anywhere : ℕ → Type 0
anywhere x = Unit {0}

-- at each state
abbrev pub IsJoint : World → Joint → ℕ → MapId → MapId → MapId → Type 0
IsJoint w joint left map next r = IsJointWhere w joint left anywhere map next r

-- at the states in which a bit has a value
abbrev pub IsHalf : World → Joint → ℕ → ℕ → MapId → MapId → MapId → Type 0
IsHalf w joint bit d map next r = IsJointWhere w joint (suc bit) (λ x. bit_at x bit ≡ d) map next r

-- that, once no bit is left, whatever bits are written and needed
abbrev pub AreJoint : World → MapId → MapId → MapId → Type 0
AreJoint w map next r = (joint : Joint) → IsJoint w joint 0 map next r

-- what follows is that all have ended, and no bit that matters outside is written
pub record IsEnded (w : World) (keep : ℕ) (joint : Joint) (rest : MapId) : Type 0 where
  pub same : except (bit_or keep joint.needed) joint.written ≡ keep
  pub nodes : HasNodes w rest
  pub ending : IsEnding w (bit_or keep joint.needed) keep rest

-- what is remembered is right
pub record KeepJoints (w : World) (joint : Joint) (memo : Memo) : Type 0 where
  pub each : (k : Call) (r : ℕ) → recalled memo k ≡ Some r → IsJoint w joint k.first (map_id k.second) (map_id k.third) (map_id r)
