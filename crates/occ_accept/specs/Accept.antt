use Rattle.std.specs.Prelude.{Bool, true, List, [], ◌∷◌, ◌&&◌, ◌≡◌, not, ◌==◌}
use Rattle.std.specs.List.{list_all, list_any}
use Rattle.std.specs.Cmp.Lexicographic.{slice_cmp}
use Rattle.occ_base.specs.Event.{counterpart}
use Rattle.occ_base.specs.declared.event.Event.{Event}
use Rattle.occ_base.specs.declared.names.Name.{Name}
use Rattle.occ_accept.specs.Order.{event_cmp, strict, is_in}

-- A set of events is a list that increases; a test of events says which events are refused.

-- the event is in the set
abbrev pub in_set : List Event → Event → Bool
in_set set e = is_in event_cmp set e

-- each event of a is in b
abbrev pub is_part : List Event → List Event → Bool
is_part a b = list_all (in_set b) a

-- no event of the set is refused
abbrev pub misses : (Event → Bool) → List Event → Bool
misses X set = list_all (λ e. not (X e)) set

-- all of X can be refused: some acceptance holds none of it
abbrev pub refuses : List (List Event) → (Event → Bool) → Bool
refuses sets X = list_any (misses X) sets

-- the event is in some set
abbrev pub in_some : List (List Event) → Event → Bool
in_some sets e = list_any (λ set. in_set set e) sets

-- neither set contains the other
abbrev pub are_apart : List Event → List Event → Bool
are_apart a b = not (is_part a b) && not (is_part b a)

-- no set contains another
abbrev pub all_apart : List (List Event) → Bool
all_apart [] = true
all_apart (a ∷ sets) = list_all (are_apart a) sets && all_apart sets

-- an increasing list of increasing sets, none of which contains another
pub record IsAntichain (sets : List (List Event)) : Type 0 where
  pub increasing : strict (slice_cmp event_cmp) sets ≡ true
  pub events : list_all (strict event_cmp) sets ≡ true
  pub apart : all_apart sets ≡ true

-- no event of a has its counterpart in b
abbrev pub is_unmatched : List Event → List Event → Bool
is_unmatched a b = list_all (λ e. not (in_set b (counterpart e))) a

-- all of X can be refused by one set of each list, no event of the one having its counterpart in the other
abbrev pub refuses_both : List (List Event) → List (List Event) → (Event → Bool) → Bool
refuses_both sets others X = list_any (λ a. list_any (λ b. is_unmatched a b && (misses X a && misses X b)) others) sets

-- the event is one of the channel
abbrev pub is_on : Name → Event → Bool
is_on chan e = e.chan.0 == chan.0

-- antichains that refuse the same are the same
pub record IsTold (r s : List (List Event)) : Type 0 where
  pub one : IsAntichain r → IsAntichain s → ((X : Event → Bool) → refuses r X ≡ refuses s X) → r ≡ s
