-- What the lists of a row say, each by itself.
use Rattle.std.specs.Prelude.{ℕ, ◌<◌, ◌≡◌, ◌^◌, Bool, true, List, [], ◌∷◌, Option, None, Some, option_map}
use Rattle.std.specs.List.{AllByRecursion}
use Rattle.std.specs.List.Sorted.{IsPermutation, IsSorted}
use Rattle.std.specs.Ordering.{nat_cmp, on}
use Rattle.occ_syntax.specs.occ_base.declared.event.Event.{Event}
use Rattle.occ_syntax.specs.occ_base.declared.names.Name.{Name}
use Rattle.occ_syntax.specs.declared.scope.Kind.{Kind}
use Rattle.occ_syntax.specs.Counts.{bits_of_scope}
use Rattle.occ_nform_table.specs.occ_behaviour.States.{is_state}
use Rattle.occ_compare.specs.occ_dd.Store.{has}
use Rattle.occ_compare.specs.occ_dd.declared.set.SetId.{SetId}
use Rattle.occ_compare.specs.occ_dd.declared.store.Store.{Store}
use Rattle.occ_compare.specs.occ_accept.Accept.{refuses}
use Rattle.occ_compare.specs.occ_accept.Order.{is_in, strict}
use Rattle.occ_compare.specs.occ_node.Offers.{next_in}
use Rattle.occ_compare.specs.occ_node.declared.node.NodeId.{NodeId}
use Rattle.occ_compare.specs.Orders.{print_cmp, list_cmp, IsListOf, has_set}
use Rattle.occ_compare.specs.Places.{assignment_at}
use Rattle.occ_nform_table.specs.Behaviours.{next_row}
use Rattle.occ_nform_table.specs.Lines.{state_place}
use Rattle.occ_nform_rows.specs.Listed.{has_place, number_of}

-- the states of the members of a set, in the order of states
pub record AreEnds (s : Store) (params : List (Name × Kind)) (set : SetId) (states : List (List (Name × ℕ))) : Type 0 where
  pub members : (k : ℕ) → k < 2 ^ bits_of_scope params → has_place params states k ≡ has s set (assignment_at params k)
  pub increasing : strict (on (state_place params) nat_cmp) states ≡ true
  pub forms : AllByRecursion (λ state. is_state params state ≡ true) states

-- each list has the events of the set at its place
abbrev pub AreLists : List (Name × Kind) → List (List Event) → List (List Event) → Type 0
AreLists params [] [] = Unit {0}
AreLists params [] (list ∷ lists) = ⊥
AreLists params (set ∷ sets) [] = ⊥
AreLists params (set ∷ sets) (list ∷ lists) = IsListOf params set list × AreLists params sets lists

-- the same lists in their order
pub record IsInOrder (params : List (Name × Kind)) (old new : List (List Event)) : Type 0 where
  pub moved : IsPermutation old new
  pub sorted : IsSorted (list_cmp params) new

-- the sets of an antichain as lists that increase
pub record AreSets (params : List (Name × Kind)) (sets lists : List (List Event)) : Type 0 where
  pub increasing : strict (list_cmp params) lists ≡ true
  pub refusals : (X : Event → Bool) → refuses lists X ≡ refuses sets X
  pub each : (list : List Event) → is_in (list_cmp params) lists list ≡ true
      → (set : List Event) × (has_set sets set ≡ true) × IsListOf params set list

-- an offer in front of others, where the event is offered
abbrev pub with_number : List ℕ → Event → Option NodeId → List (Event × ℕ) → List (Event × ℕ)
with_number numbers e None offers = offers
with_number numbers e (Some a) offers = (e, number_of numbers a) ∷ offers

-- the offers at these events
abbrev pub with_numbers : List ℕ → List (Event × NodeId) → List Event → List (Event × ℕ)
with_numbers numbers offers [] = []
with_numbers numbers offers (e ∷ events) = with_number numbers e (next_in offers e) (with_numbers numbers offers events)

-- the offer leads to the number of the node that is offered
abbrev pub IsOffer : List ℕ → List (Event × NodeId) → Event × ℕ → Type 0
IsOffer numbers offers offer = (a : NodeId) × (next_in offers offer.0 ≡ Some a) × (offer.1 ≡ number_of numbers a)

-- the offers with the numbers of their nodes, in the order of the events
pub record AreOffers (params : List (Name × Kind)) (numbers : List ℕ) (offers : List (Event × NodeId)) (list : List (Event × ℕ))
    : Type 0 where
  pub next : (e : Event) → next_row list e ≡ option_map (number_of numbers) (next_in offers e)
  pub increasing : strict (on (λ (o : Event × ℕ). o.0) (print_cmp params)) list ≡ true
  pub each : AllByRecursion (IsOffer numbers offers) list
