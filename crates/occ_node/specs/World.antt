use Rattle.std.specs.Prelude.{ℕ, ◌<◌, ◌≤◌, ◌≡◌, Bool, true, List, [], ◌∷◌, length}
use Rattle.occ_accept.specs.occ_base.declared.event.Event.{Event}
use Rattle.occ_mdd.specs.occ_dd.Store.{IsKnown, Keeps, has}
use Rattle.occ_accept.specs.Order.{strict}
use Rattle.occ_accept.specs.Accept.{refuses}
use Rattle.occ_node.specs.Offers.{offer_cmp, next_in, are_below, are_offered}
use Rattle.occ_node.specs.Rows.{IsAlive, row_at, goes_on, node_fails, node_ends}
use Rattle.occ_node.specs.declared.node.NodeId.{NodeId}
use Rattle.occ_node.specs.declared.row.Row.{Row}
use Rattle.occ_node.specs.declared.world.World.{World}

-- how many nodes a world has
unfoldable pub nodes_of : World → ℕ
nodes_of w = length w.rows.keys

-- the world gave the number
abbrev pub IsNode : World → NodeId → Type 0
IsNode w a = a.0 < nodes_of w

-- the row of a node
unfoldable pub row_of : World → NodeId → Row
row_of w a = row_at w.rows.keys a

-- after the trace t the node can be stable, not ended, and refuse all of X
unfoldable pub fails : World → NodeId → List Event → (Event → Bool) → Bool
fails w a t X = node_fails w.rows.keys a t X

-- after the trace t the node can have ended in the assignment x
unfoldable pub ends : World → NodeId → List Event → ℕ → Bool
ends w a t x = node_ends w.store w.rows.keys a t x

-- the behaviours of a row, whether or not it is in the table
abbrev pub row_fails : World → Row → List Event → (Event → Bool) → Bool
row_fails w r [] X = refuses r.accepts X
row_fails w r (e ∷ t) X = goes_on (next_in r.offers e) (λ a. fails w a t X)

abbrev pub row_ends : World → Row → List Event → ℕ → Bool
row_ends w r [] x = has w.store r.ends x
row_ends w r (e ∷ t) x = goes_on (next_in r.offers e) (λ a. ends w a t x)

-- each node of the old world keeps its row and its behaviours, and each set its members
pub record Grows (old new : World) : Type 0 where
  pub stored : Keeps old.store new.store
  pub more : nodes_of old ≤ nodes_of new
  pub kept : (a : NodeId) → IsNode old a → row_of new a ≡ row_of old a
  pub same_fails : (a : NodeId) (t : List Event) (X : Event → Bool) → IsNode old a → fails new a t X ≡ fails old a t X
  pub same_ends : (a : NodeId) (t : List Event) (x : ℕ) → IsNode old a → ends new a t x ≡ ends old a t x

-- the same, and the table of maps is as it was
pub record Leads (old new : World) : Type 0 where
  pub stored : Keeps old.store new.store
  pub more : nodes_of old ≤ nodes_of new
  pub kept : (a : NodeId) → IsNode old a → row_of new a ≡ row_of old a
  pub same_fails : (a : NodeId) (t : List Event) (X : Event → Bool) → IsNode old a → fails new a t X ≡ fails old a t X
  pub same_ends : (a : NodeId) (t : List Event) (x : ℕ) → IsNode old a → ends new a t x ≡ ends old a t x
  pub maps : new.maps ≡ old.maps

-- the row can be put into the world: its set of ends and its nodes are there, its offers increase strictly, it accepts
-- offered events alone, and it has an acceptance or an end
pub record IsFit (w : World) (r : Row) : Type 0 where
  pub known : IsKnown w.store r.ends
  pub increasing : strict offer_cmp r.offers ≡ true
  pub there : are_below (nodes_of w) r.offers ≡ true
  pub offered : are_offered r.offers r.accepts ≡ true
  pub alive : IsAlive w.store r

-- the node has that row
pub record IsMade (w : World) (a : NodeId) (r : Row) : Type 0 where
  pub known : IsNode w a
  pub row : row_of w a ≡ r
