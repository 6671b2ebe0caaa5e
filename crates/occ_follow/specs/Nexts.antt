use Rattle.std.specs.Prelude.{ℕ, ◌<◌, ◌≡◌, ◌^◌, Bool, true, List, [], Some, Contains}
use Rattle.std.specs.List.{list_any}
use Rattle.occ_choice.specs.occ_base.declared.event.Event.{Event}
use Rattle.occ_choice.specs.occ_mdd.Maps.{value}
use Rattle.occ_choice.specs.occ_mdd.declared.map.MapId.{MapId}
use Rattle.occ_choice.specs.occ_node.World.{IsNode, fails, ends}
use Rattle.occ_choice.specs.occ_node.declared.node.NodeId.{NodeId}
use Rattle.occ_choice.specs.occ_node.declared.world.World.{World}

-- the map has the node at an assignment in which p can have ended before any event
pub record IsNext (w : World) (p : NodeId) (map : MapId) (m : NodeId) : Type 0 where
  pub x : ℕ
  pub below : x < 2 ^ 64
  pub ended : ends w p [] x ≡ true
  pub leads : value w.maps map x ≡ Some m

-- the nodes with which the map goes on where p has ended before any event
pub record AreNexts (w : World) (p : NodeId) (map : MapId) (nodes : List NodeId) : Type 0 where
  pub met : (m : NodeId) → Contains nodes m → IsNext w p map m
  pub all : (m : NodeId) → IsNext w p map m → Contains nodes m

-- r has the behaviours that the nodes had in an earlier world
pub record IsUnionOf (old new : World) (nodes : List NodeId) (r : NodeId) : Type 0 where
  pub known : IsNode new r
  pub all_fail : (t : List Event) (X : Event → Bool) → fails new r t X ≡ list_any (λ m. fails old m t X) nodes
  pub all_end : (t : List Event) (x : ℕ) → ends new r t x ≡ list_any (λ m. ends old m t x) nodes
