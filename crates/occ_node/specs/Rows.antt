use Rattle.std.specs.Prelude.{ℕ, ◌<◌, ◌≡◌, ◌^◌, ◌⊎◌, ◌++◌, Bool, true, false, List, [], ◌∷◌, Option, Some, None, slice_get, slice_index_or}
use Rattle.occ_accept.specs.occ_base.declared.event.Event.{Event}
use Rattle.occ_mdd.specs.occ_dd.Store.{IsKnown, has}
use Rattle.occ_mdd.specs.occ_dd.declared.store.Store.{Store}
use Rattle.occ_accept.specs.Order.{strict}
use Rattle.occ_accept.specs.Accept.{IsAntichain, refuses}
use Rattle.occ_node.specs.Offers.{offer_cmp, next_in, are_below, are_offered}
use Rattle.occ_node.specs.declared.node.NodeId.{NodeId}
use Rattle.occ_node.specs.declared.row.Row.{Row}

-- the row has an acceptance or an end
abbrev pub IsAlive : Store → Row → Type 0
IsAlive s r = (r.accepts ≡ []) → ((x : ℕ) → x < 2 ^ 64 → has s r.ends x ≡ false) → ⊥

-- what holds of row i
pub record IsRow (s : Store) (i : ℕ) (r : Row) : Type 0 where
  pub known : IsKnown s r.ends
  pub chain : IsAntichain r.accepts
  pub increasing : strict offer_cmp r.offers ≡ true
  pub earlier : are_below i r.offers ≡ true
  pub offered : are_offered r.offers r.accepts ≡ true
  pub alive : IsAlive s r

-- what holds of a table of rows: no row stands twice
pub record AreRows (s : Store) (rs : List Row) : Type 0 where
  pub each : (i : ℕ) (r : Row) → slice_get rs i ≡ Some r → IsRow s i r
  pub single : (i j : ℕ) (r : Row) → slice_get rs i ≡ Some r → slice_get rs j ≡ Some r → i ≡ j

abbrev pub no_row : Row
no_row = record { ends = record { 0 = 0 }; accepts = []; offers = [] }

abbrev pub row_at : List Row → NodeId → Row
row_at rs a = slice_index_or rs a.0 no_row

-- what holds of the node that is there, and nothing where none is
abbrev pub goes_on : Option NodeId → (NodeId → Bool) → Bool
goes_on None test = false
goes_on (Some a) test = test a

-- after the trace the node can be stable, not ended, and refuse all of X
unfoldable pub node_fails : List Row → NodeId → List Event → (Event → Bool) → Bool
node_fails rs a [] X = refuses (row_at rs a).accepts X
node_fails rs a (e ∷ t) X = goes_on (next_in (row_at rs a).offers e) (λ b. node_fails rs b t X)

-- after the trace the node can have ended in the assignment x
unfoldable pub node_ends : Store → List Row → NodeId → List Event → ℕ → Bool
node_ends s rs a [] x = has s (row_at rs a).ends x
node_ends s rs a (e ∷ t) x = goes_on (next_in (row_at rs a).offers e) (λ b. node_ends s rs b t x)

-- the row is put last where it isn't there, and else all stays
abbrev pub Interns : List Row → List Row → Row → Type 0
Interns old new r = (new ≡ old) ⊎ ((new ≡ old ++ r ∷ []) × ((i : ℕ) → slice_get old i ≡ Some r → ⊥))
