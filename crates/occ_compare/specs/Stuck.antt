-- Where a process is stuck: it hasn't ended, and refuses every event of its interface.
use Rattle.std.specs.Prelude.{◌≡◌, true, false, List}
use Rattle.std.specs.Ordering.{is_lt}
use Rattle.occ_syntax.specs.occ_base.declared.event.Event.{Event}
use Rattle.occ_syntax.specs.occ_base.declared.names.Name.{Name}
use Rattle.occ_syntax.specs.declared.scope.Kind.{Kind}
use Rattle.occ_syntax.specs.Scopes.{Trace, environment, in_interface}
use Rattle.occ_behaviour.specs.declared.behaviour.Last.{Last}
use Rattle.occ_behaviour.specs.declared.behaviour.Last.TheVariants.{Refuses, Ends}
use Rattle.occ_node.specs.occ_accept.Order.{strict}
use Rattle.occ_node.specs.occ_accept.Accept.{in_set}
use Rattle.occ_compare.specs.Orders.{print_cmp, set_cmp}
use Rattle.occ_compare.specs.Views.{Behaviours}

module _ (ps : List (Name × Kind)) where
  abbrev pub IsStuckAfter : Behaviours → Trace → Type 0
  IsStuckAfter b t = b.fails t (in_interface (environment ps))

  abbrev pub IsFree : Behaviours → Type 0
  IsFree b = (t : Trace) → IsStuckAfter b t → ⊥

  -- the shortest trace after which it is stuck, and the least of these in the order of printing
  pub record IsFirstStuck (b : Behaviours) (t : Trace) : Type 0 where
    pub stuck : IsStuckAfter b t
    pub first : (u : Trace) → IsStuckAfter b u → is_lt (set_cmp ps u t) ≡ false

  -- the refusal of all events of the interface
  abbrev pub RefusesAll : Last → Type 0
  RefusesAll (Refuses events) = (strict (print_cmp ps) events ≡ true) × ((e : Event) → in_set events e ≡ in_interface (environment ps) e)
  RefusesAll (Ends s) = ⊥
