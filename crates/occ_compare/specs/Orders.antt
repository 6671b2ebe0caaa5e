-- Events and sets of events in the order of printing.
use Rattle.std.specs.Prelude.{◌≡◌, Bool, true, List, length}
use Rattle.std.specs.Ordering.{nat_cmp, on, then_cmp}
use Rattle.std.specs.Cmp.Lexicographic.{slice_cmp}
use Rattle.std.specs.declared.cmp.Ordering.{Ordering}
use Rattle.occ_syntax.specs.occ_base.declared.event.Event.{Event}
use Rattle.occ_syntax.specs.occ_base.declared.names.Name.{Name}
use Rattle.occ_syntax.specs.declared.scope.Kind.{Kind}
use Rattle.occ_node.specs.occ_accept.Order.{dir_number, event_cmp, strict, is_in}
use Rattle.occ_node.specs.occ_accept.Accept.{in_set}
use Rattle.occ_behaviour.specs.Places.{place_in}

-- Events by their channel's place among the parameters, then by value. The direction and the channel's number come last,
-- so that no two events have one place, whatever the parameters.
abbrev pub print_cmp : List (Name × Kind) → Event → Event → Ordering
print_cmp params = then_cmp (on (λ e. place_in params e.chan) nat_cmp) (then_cmp (on (λ e. e.value) nat_cmp) (then_cmp (on (λ e. dir_number e.dir) nat_cmp) (on (λ e. e.chan.0) nat_cmp)))

-- lists of events by their first difference
abbrev pub list_cmp : List (Name × Kind) → List Event → List Event → Ordering
list_cmp params = slice_cmp (print_cmp params)

-- sets by their size, then as lists
abbrev pub set_cmp : List (Name × Kind) → List Event → List Event → Ordering
set_cmp params = then_cmp (on (λ list. length list) nat_cmp) (list_cmp params)

-- the events of a set as a list that increases strictly in the order of printing
pub record IsListOf (params : List (Name × Kind)) (set list : List Event) : Type 0 where
  pub increasing : strict (print_cmp params) list ≡ true
  pub members : (e : Event) → in_set list e ≡ in_set set e

-- the set is one of the sets
abbrev pub has_set : List (List Event) → List Event → Bool
has_set sets set = is_in (slice_cmp event_cmp) sets set
