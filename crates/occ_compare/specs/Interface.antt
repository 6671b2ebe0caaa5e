-- Roots that can be compared, and what their meaning needs.
use Rattle.std.specs.Prelude.{ℕ, ◌<◌, ◌≤◌, ◌≡◌, ◌%◌, ◌^◌, true, List, Some, IsSomeAnd}
use Rattle.std.specs.List.{list_all}
use Rattle.occ_syntax.specs.occ_base.declared.event.Event.{Event}
use Rattle.occ_syntax.specs.occ_base.declared.names.Name.{Name}
use Rattle.occ_syntax.specs.declared.scope.Kind.{Kind}
use Rattle.occ_syntax.specs.Counts.{bits_of_scope}
use Rattle.occ_syntax.specs.Scopes.{environment, in_interface}
use Rattle.occ_syntax.specs.Types.{scope_kept}
use Rattle.occ_node.specs.occ_mdd.Maps.{value, IsKnown}
use Rattle.occ_node.specs.occ_mdd.declared.map.MapId.{MapId}
use Rattle.occ_node.specs.Canonical.{HasTrace}
use Rattle.occ_node.specs.World.{IsNode, ends}
use Rattle.occ_node.specs.declared.node.NodeId.{NodeId}
use Rattle.occ_node.specs.declared.root.Root.{Root}
use Rattle.occ_node.specs.declared.world.World.{World}

-- the map is one of the world, and has a node of the world at every assignment
pub record HasNodes (w : World) (map : MapId) : Type 0 where
  pub known : IsKnown w.maps map
  pub nodes : (x : ℕ) → x < 2 ^ 64 → IsSomeAnd (value w.maps map x) (IsNode w)

-- two roots of one interface of at most 64 bits, whose maps have nodes
pub record AreComparable (w : World) (a b : Root) : Type 0 where
  pub params : a.params ≡ b.params
  pub few : bits_of_scope a.params ≤ 64
  pub first : HasNodes w a.states
  pub second : HasNodes w b.states

-- No bit at or above those of the interface matters to where the node ends, and each event of its traces is one of the
-- interface.
pub record IsWithin (w : World) (params : List (Name × Kind)) (a : NodeId) : Type 0 where
  pub bits : (t : List Event) (x : ℕ) → x < 2 ^ 64 → ends w a t x ≡ ends w a t (x % 2 ^ bits_of_scope params)
  pub events : (t : List Event) → HasTrace w a t → list_all (in_interface (environment params)) t ≡ true

-- The parameters are a scope, no bit at or above those of the interface matters to the map, and each of its nodes is
-- within the interface.
pub record IsOfInterface (w : World) (root : Root) : Type 0 where
  pub scope : scope_kept root.params ≡ true
  pub map : (x : ℕ) → x < 2 ^ 64 → value w.maps root.states x ≡ value w.maps root.states (x % 2 ^ bits_of_scope root.params)
  pub nodes : (x : ℕ) (a : NodeId) → x < 2 ^ 64 → value w.maps root.states x ≡ Some a → IsWithin w root.params a
