use Rattle.std.specs.Prelude.{ℕ, ◌<◌, ◌≡◌, ◌⊎◌, ◌↔◌, ◌^◌, Bool, true, false, not, List, [], ◌∷◌}
use Rattle.std.specs.List.{list_any}
use Rattle.occ_accept.specs.occ_base.declared.event.Event.{Event}
use Rattle.occ_accept.specs.Accept.{in_set, is_part}
use Rattle.occ_node.specs.Offers.{is_offered}
use Rattle.occ_node.specs.World.{IsNode, row_of, fails, ends}
use Rattle.occ_node.specs.declared.node.NodeId.{NodeId}
use Rattle.occ_node.specs.declared.world.World.{World}

-- nodes of equal behaviours have equal numbers
pub record IsCanonical (w : World) : Type 0 where
  pub one : (a b : NodeId) → IsNode w a → IsNode w b
      → ((t : List Event) (X : Event → Bool) → fails w a t X ≡ fails w b t X)
      → ((t : List Event) (x : ℕ) → x < 2 ^ 64 → ends w a t x ≡ ends w b t x)
      → a ≡ b

-- some behaviour of the node has the trace
abbrev pub HasTrace : World → NodeId → List Event → Type 0
HasTrace w a t = (fails w a t (λ e. false) ≡ true) ⊎ ((x : ℕ) × (x < 2 ^ 64) × (ends w a t x ≡ true))

-- a row is read off its behaviours
pub record IsRecovered (w : World) (a : NodeId) : Type 0 where
  -- an event is offered exactly where some trace begins with it
  pub offers : (e : Event) → (is_offered (row_of w a).offers e ≡ true) ↔ ((t : List Event) × HasTrace w a (e ∷ t))
  -- a set contains an acceptance exactly where everything outside it can be refused
  pub accepts : (set : List Event) → fails w a [] (λ e. not (in_set set e)) ≡ list_any (λ acceptance. is_part acceptance set) (row_of w a).accepts
