use Rattle.std.specs.Prelude.{ℕ, ◌≡◌, ◌||◌, Bool, List, Some}
use Rattle.occ_node.specs.occ_base.declared.event.Event.{Event}
use Rattle.occ_node.specs.occ_dd.Memo.{recalled}
use Rattle.occ_node.specs.occ_dd.declared.memo.Call.{Call}
use Rattle.occ_node.specs.World.{IsNode, fails, ends, row_fails, row_ends}
use Rattle.occ_node.specs.declared.node.NodeId.{NodeId}
use Rattle.occ_node.specs.declared.row.Row.{Row}
use Rattle.occ_node.specs.declared.world.World.{World}
use Rattle.occ_choice.specs.declared.unions.Unions.{Unions}

abbrev pub node_id : ℕ → NodeId
node_id n = record { 0 = n }

-- r has the behaviours of both nodes
pub record IsUnion (w : World) (a b r : NodeId) : Type 0 where
  pub first : IsNode w a
  pub second : IsNode w b
  pub known : IsNode w r
  pub both_fail : (t : List Event) (X : Event → Bool) → fails w r t X ≡ (fails w a t X || fails w b t X)
  pub both_end : (t : List Event) (x : ℕ) → ends w r t x ≡ (ends w a t x || ends w b t x)

-- r has the behaviours that a row, which needn't be in the table, and a node had in an earlier world
pub record IsAdded (old new : World) (row : Row) (b r : NodeId) : Type 0 where
  pub known : IsNode new r
  pub both_fail : (t : List Event) (X : Event → Bool) → fails new r t X ≡ (row_fails old row t X || fails old b t X)
  pub both_end : (t : List Event) (x : ℕ) → ends new r t x ≡ (row_ends old row t x || ends old b t x)

-- the unions that are remembered are unions in the world
pub record AreUnions (w : World) (u : Unions) : Type 0 where
  pub each : (k : Call) (r : ℕ) → recalled u.memo k ≡ Some r → IsUnion w (node_id k.first) (node_id k.second) (node_id r)
