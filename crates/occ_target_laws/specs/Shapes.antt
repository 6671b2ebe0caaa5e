-- The shape of normal processes, said of trees alone.
use Rattle.std.specs.Prelude.{ℕ, ◌+◌, ◌<◌, ◌^◌, ◌≡◌, ◌⊎◌, nat_lt, Bool, true, List, [], ◌∷◌, ◌++◌, length, map, None, Some}
use Rattle.std.specs.List.{AllByRecursion}
use Rattle.occ_target.specs.occ_base.declared.event.Dir.{Dir}
use Rattle.occ_target.specs.occ_base.declared.event.Dir.TheVariants.{Input, Output}
use Rattle.occ_target.specs.occ_base.declared.event.Event.{Event}
use Rattle.occ_target.specs.occ_base.declared.names.Name.{Name}
use Rattle.occ_target.specs.occ_base.declared.width.Width.{Width}
use Rattle.occ_target.specs.occ_base.Width.{bits_of}
use Rattle.occ_target.specs.occ_syntax.declared.scope.Kind.{Kind}
use Rattle.occ_target.specs.occ_syntax.declared.scope.Kind.TheVariants.{Chan}
use Rattle.occ_target.specs.occ_syntax.Eval.{eval}
use Rattle.occ_target.specs.occ_syntax.Scopes.{environment}
use Rattle.occ_target.specs.occ_syntax.Tree.{Exp, Waiting, ready, input, output, Tree, select, alt, Cases, no_case, and_case}
use Rattle.occ_target.specs.occ_behaviour.States.{is_state}
use Rattle.occ_target.specs.occ_nform_table.Judging.{text_less}
use Rattle.occ_target.specs.occ_nform_table.Lines.{rank, state_place}
use Rattle.occ_target.specs.occ_nform_table.Lists.{Chain, In}
use Rattle.occ_target.specs.Rows.{guarded, part_at, variable_of}
use Rattle.occ_target.specs.States.{constant, ending, is_at}

-- What the parts of a normal program have in common: its parameters, and the variables into which it inputs.
pub record Header : Type 0 where
  pub params : List (Name × Kind)
  pub inputs : List (Name × Kind)

abbrev pub event : ℕ → Dir → ℕ → Event
event c d v = record { chan = record { 0 = c }; dir = d; value = v }

-- ---- orders

-- the first event of a guard in the order of events: an input takes every value, beginning with 0
abbrev pub first_event : Waiting → Event
first_event ready = event 0 Input 0
first_event (input c x) = event c Input 0
first_event (output c e) = event c Output (eval (λ x. None) e (λ x. 0))

-- branches of events are in the order of their first events
abbrev pub place : Header → Waiting × Tree → ℕ
place h b = rank h.params (first_event b.0)

abbrev pub branch_less : Header → Waiting × Tree → Waiting × Tree → Bool
branch_less h b c = nat_lt (place h b) (place h c)

-- lists of them are in the order of the first difference, the shorter first where there is none
abbrev pub set_less : Header → List (Waiting × Tree) → List (Waiting × Tree) → Bool
set_less h bs cs = text_less (map (place h) bs) (map (place h) cs)

abbrev pub end_less : Header → List (Name × ℕ) → List (Name × ℕ) → Bool
end_less h s u = nat_lt (state_place h.params s) (state_place h.params u)

-- ---- events, and what follows them

-- the choices of these processes: the first under the k-th condition, and so on
abbrev pub numbered : (ℕ → Exp) → ℕ → List Tree → Cases
numbered test k [] = no_case
numbered test k (p ∷ parts) = and_case (test k) p (numbered test (k + 1) parts)

-- the branch puts out the event, and goes on as the process
pub record IsSent (h : Header) (b : Waiting × Tree) (e : Event) (p : Tree) : Type 0 where
  pub width : Width
  pub dir : e.dir ≡ Output
  pub channel : environment h.params e.chan.0 ≡ Some (Chan width (Some Output))
  pub value : e.value < 2 ^ bits_of width
  pub branch : b ≡ (output e.chan.0 (constant width e.value), p)

-- the branch inputs any value into the variable of the channel's width, and then has a choice for each value in order; the event is
-- one of these inputs, and the process that of its value
pub record IsReceived (h : Header) (b : Waiting × Tree) (e : Event) (p : Tree) : Type 0 where
  pub width : Width
  pub parts : List Tree
  pub dir : e.dir ≡ Input
  pub channel : environment h.params e.chan.0 ≡ Some (Chan width (Some Input))
  pub value : e.value < 2 ^ bits_of width
  pub count : length parts ≡ 2 ^ bits_of width
  pub branch : b ≡ (input e.chan.0 (variable_of h.inputs width), select (numbered (is_at (variable_of h.inputs width) width) 0 parts))
  pub next : p ≡ part_at parts e.value

-- the branch takes part in the event, and goes on as the process
abbrev pub Leads : Header → Waiting × Tree → Event → Tree → Type 0
Leads h b e p = IsSent h b e p ⊎ IsReceived h b e p

-- ---- processes

-- The branches of a normal process: those of events, for each acceptance those of the events that are accepted, and the final states.
pub record Node : Type 0 where
  pub events : List (Waiting × Tree)
  pub accepts : List (List (Waiting × Tree))
  pub ends : List (List (Name × ℕ))

abbrev pub accepting : List (Waiting × Tree) → Waiting × Tree
accepting set = (ready, alt (guarded set))

abbrev pub ending_in : Header → List (Name × ℕ) → Waiting × Tree
ending_in h state = (ready, ending h.params state)

abbrev pub process_of : Header → Node → Tree
process_of h n = alt (guarded (n.events ++ map accepting n.accepts ++ map (ending_in h) n.ends))

-- each event branch takes part in an event; events, acceptances and ends increase strictly
pub record IsNode (h : Header) (n : Node) : Type 0 where
  pub events : (b : Waiting × Tree) → In b n.events → (e : Event) × (p : Tree) × Leads h b e p
  pub rising : Chain (branch_less h) None n.events
  -- the branches of an acceptance are some of the event branches, in order
  pub within : (set : List (Waiting × Tree)) → In set n.accepts → (b : Waiting × Tree) → In b set → In b n.events
  pub accepts_in_order : (set : List (Waiting × Tree)) → In set n.accepts → Chain (branch_less h) None set
  pub accepts_rising : Chain (set_less h) None n.accepts
  -- none contains another one
  pub least : (set other : List (Waiting × Tree)) → In set n.accepts → In other n.accepts
      → ((b : Waiting × Tree) → In b other → In b set) → other ≡ set
  pub states : AllByRecursion (λ state. is_state h.params state ≡ true) n.ends
  pub ends_rising : Chain (end_less h) None n.ends
  -- an acceptance or an end is there
  pub full : n.accepts ≡ [] → n.ends ≡ [] → ⊥

-- The process has the shape of a normal one, and so has what follows each event.
pub data IsShaped (h : Header) : Tree → Type 0 where
  of_node : (p : Tree) (n : Node) → p ≡ process_of h n → IsNode h n
      → ((b : Waiting × Tree) (e : Event) (q : Tree) → In b n.events → Leads h b e q → IsShaped h q) → IsShaped h p
