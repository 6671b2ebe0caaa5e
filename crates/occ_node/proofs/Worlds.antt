use Rattle.std.proofs.Common.{◌≡◌, ◌<◌, ℕ, Some, length, slice_get, refl, sym}
use Rattle.occ_mdd.specs.occ_dd.Store.{Keeps}
use Rattle.occ_accept.specs.Accept.{IsAntichain}
use Rattle.occ_node.specs.Rows.{IsRow, row_at}
use Rattle.occ_node.specs.World.{nodes_of, IsNode, row_of, fails, ends, Grows, Leads, IsFit, IsMade}
use Rattle.occ_node.specs.declared.node.NodeId.{NodeId}
use Rattle.occ_node.specs.declared.row.Row.{Row}
use Rattle.occ_node.specs.declared.world.World.{World}
use Rattle.occ_node.proofs.Table.{Holds, row-holds, fails-holds, ends-holds, is_row_at, row_is}

-- Worlds by their tables: what the functions of this crate cite.

pub node_row : (w : World) (a : NodeId) → IsNode w a → a.0 < length w.rows.keys
unfolding nodes_of
node_row w a h = h

pub row_of_is : (w : World) (a : NodeId) → row_of w a ≡ row_at w.rows.keys a
unfolding row_of
row_of_is w a = refl

pub is_row : (w : World) (a : NodeId) → IsNode w a → IsRow w.store a.0 (row_of w a)
unfolding row_of
is_row w a h = is_row_at w.store w.rows.keys w.right a (node_row w a h)

-- a row that was read
pub read_row : (w : World) (a : NodeId) (r : Row) → slice_get w.rows.keys a.0 ≡ Some r → r ≡ row_of w a
unfolding row_of
read_row w a r e = sym (row_is w.rows.keys a r e)

module _ (old new : World) (keeps : Keeps old.store new.store) (holds : Holds old.rows.keys new.rows.keys) where
  -- a world whose store and table have grown
  pub grows_from : Grows old new
  unfolding nodes_of row_of fails ends
  grows_from = record {
    stored = keeps;
    more = holds.more;
    kept = λ a h. row-holds old.store old.rows.keys old.right new.rows.keys holds a h;
    same_fails = λ a t X h. fails-holds old.store old.rows.keys old.right new.rows.keys holds t a X h;
    same_ends = λ a t x h. ends-holds old.store old.rows.keys old.right new.rows.keys holds new.store keeps t a x h;
  }

  pub leads_from : new.maps ≡ old.maps → Leads old new
  leads_from maps =
      let k = grows_from in
      record { stored = k.stored; more = k.more; kept = k.kept; same_fails = k.same_fails; same_ends = k.same_ends; maps = maps }

-- a row that fits is right behind the last one
pub fit_row : (w : World) (r : Row) → IsFit w r → IsAntichain r.accepts → IsRow w.store (length w.rows.keys) r
unfolding nodes_of
fit_row w r fit chain = record { known = fit.known; chain = chain; increasing = fit.increasing; earlier = fit.there; offered = fit.offered; alive = fit.alive }

pub made_from : (w : World) (n : ℕ) (r : Row) → slice_get w.rows.keys n ≡ Some r → n < length w.rows.keys → IsMade w (record { 0 = n }) r
unfolding nodes_of row_of
made_from w n r e h = record { known = h; row = row_is w.rows.keys (record { 0 = n }) r e }
