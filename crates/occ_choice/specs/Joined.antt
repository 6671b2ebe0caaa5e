use Rattle.std.specs.Prelude.{ℕ, ◌+◌, ◌*◌, ◌≡◌, ◌||◌, Bool, true, List, ◌∷◌, map, Option, Some, None, IfSome, is_some}
use Rattle.std.specs.List.{All}
use Rattle.occ_node.specs.occ_base.declared.event.Event.{Event}
use Rattle.occ_node.specs.occ_dd.Store.{IsKnown}
use Rattle.occ_node.specs.occ_accept.Accept.{in_set}
use Rattle.occ_node.specs.occ_accept.Order.{event_cmp, strict}
use Rattle.occ_node.specs.Offers.{offer_cmp, are_below, are_offered, is_offered}
use Rattle.occ_node.specs.Rows.{goes_on}
use Rattle.occ_node.specs.World.{IsNode, nodes_of, row_of, fails, ends, row_fails, row_ends}
use Rattle.occ_node.specs.declared.node.NodeId.{NodeId}
use Rattle.occ_node.specs.declared.row.Row.{Row}
use Rattle.occ_node.specs.declared.world.World.{World}

-- a row that would fit into the world if it had a behaviour
pub record IsSound (w : World) (r : Row) : Type 0 where
  pub known : IsKnown w.store r.ends
  pub increasing : strict offer_cmp r.offers ≡ true
  pub there : are_below (nodes_of w) r.offers ≡ true
  pub offered : are_offered r.offers r.accepts ≡ true

-- the behaviours of the node that is there, and none where none is
abbrev pub maybe_fails : World → Option NodeId → List Event → (Event → Bool) → Bool
maybe_fails w o t X = goes_on o (λ n. fails w n t X)

abbrev pub maybe_ends : World → Option NodeId → List Event → ℕ → Bool
maybe_ends w o t x = goes_on o (λ n. ends w n t x)

-- the node that is there has these failures and ends, and where none is there are none
pub record Reaches (w : World) (r : Option NodeId) (F : List Event → (Event → Bool) → Bool) (G : List Event → ℕ → Bool) : Type 0 where
  pub known : IfSome r (IsNode w)
  pub failures : (t : List Event) (X : Event → Bool) → maybe_fails w r t X ≡ F t X
  pub endings : (t : List Event) (x : ℕ) → maybe_ends w r t x ≡ G t x

-- r has the behaviours that the two had in an earlier world, and is there where one of them is
pub record IsEither (old new : World) (p q r : Option NodeId) : Type 0 where
  pub there : is_some r ≡ (is_some p || is_some q)
  pub both : Reaches new r (λ t X. maybe_fails old p t X || maybe_fails old q t X) (λ t x. maybe_ends old p t x || maybe_ends old q t x)

-- the offers are those of some events, and after each the behaviours go on as F and G
pub record AreReached (w : World) (offers : List (Event × NodeId)) (events : List Event) (F : List Event → (Event → Bool) → Bool) (G : List Event → ℕ → Bool) : Type 0 where
  pub events_are : map (λ o. o.0) offers ≡ events
  pub lead_on : All (λ o. Reaches w (Some o.1) (λ t X. F (o.0 ∷ t) X) (λ t x. G (o.0 ∷ t) x)) offers

-- offers of the events of a row and of a node, which go on as both do
pub record AreJoined (w : World) (row : Row) (b : NodeId) (offers : List (Event × NodeId)) : Type 0 where
  pub events : List Event
  pub increasing : strict event_cmp events ≡ true
  pub all : (e : Event) → in_set events e ≡ (is_offered row.offers e || is_offered (row_of w b).offers e)
  pub reached : AreReached w offers events (λ t X. row_fails w row t X || fails w b t X) (λ t x. row_ends w row t x || ends w b t x)

-- a number that falls on the way down through unions
abbrev pub weight : Option NodeId → ℕ
weight None = 0
weight (Some b) = 3 * b.0 + 3
