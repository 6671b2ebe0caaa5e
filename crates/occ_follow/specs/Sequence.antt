use Rattle.std.specs.Prelude.{ℕ, ◌<◌, ◌≡◌, ◌^◌, ◌↔◌, ◌⊎◌, ◌++◌, Bool, true, List, Some}
use Rattle.occ_choice.specs.occ_base.declared.event.Event.{Event}
use Rattle.occ_choice.specs.occ_mdd.Maps.{IsKnown, value}
use Rattle.occ_choice.specs.occ_mdd.declared.map.MapId.{MapId}
use Rattle.occ_choice.specs.occ_node.World.{IsNode, fails, ends}
use Rattle.occ_choice.specs.occ_node.declared.node.NodeId.{NodeId}
use Rattle.occ_choice.specs.occ_node.declared.world.World.{World}

-- One process after another, where the second begins in the state in which the first has ended (Roscoe 1985).

-- the map has a node of the world at every assignment
pub record HasNodes (w : World) (map : MapId) : Type 0 where
  pub known : IsKnown w.maps map
  pub nodes : (x : ℕ) → x < 2 ^ 64 → (m : NodeId) × (value w.maps map x ≡ Some m) × IsNode w m

-- the node can have ended in an assignment after a first part of the trace, and the map's node of it behaves so with the
-- rest
pub record Continues (w : World) (p : NodeId) (map : MapId) (behaves : NodeId → List Event → Bool) (t : List Event) : Type 0 where
  pub t1 : List Event
  pub t2 : List Event
  pub x : ℕ
  pub m : NodeId
  pub whole : t ≡ t1 ++ t2
  pub below : x < 2 ^ 64
  pub ended : ends w p t1 x ≡ true
  pub leads : value w.maps map x ≡ Some m
  pub behaved : behaves m t2 ≡ true

-- r has the failures that p had in an earlier world, and wherever p ended in an assignment, it goes on as the map's node of
-- it
pub record IsFollowed (old new : World) (p : NodeId) (map : MapId) (r : NodeId) : Type 0 where
  pub known : IsNode new r
  pub follow_fails : (t : List Event) (X : Event → Bool) → (fails new r t X ≡ true) ↔ ((fails old p t X ≡ true) ⊎ Continues old p map (λ m u. fails old m u X) t)
  pub follow_ends : (t : List Event) (x : ℕ) → x < 2 ^ 64 → (ends new r t x ≡ true) ↔ Continues old p map (λ m u. ends old m u x) t
