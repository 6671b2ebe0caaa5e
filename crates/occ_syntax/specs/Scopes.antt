-- What the names in scope stand for, what the variables hold, and which events there are.
use Rattle.std.specs.Prelude.{ℕ, ◌≡◌, ◌==◌, ◌<◌, ◌^◌, Bool, true, false, ◌&&◌, nat_lt, List, [], ◌∷◌, Option, None, Some, if◌then◌else◌}
use Rattle.occ_base.specs.declared.names.Name.{Name}
use Rattle.occ_base.specs.declared.event.Dir.{Dir}
use Rattle.occ_base.specs.declared.event.Dir.TheVariants.{Input, Output}
use Rattle.occ_base.specs.declared.event.Event.{Event}
use Rattle.occ_base.specs.declared.width.Width.{Width}
use Rattle.occ_base.specs.Width.{bits_of}
use Rattle.occ_syntax.specs.declared.scope.Kind.{Kind}
use Rattle.occ_syntax.specs.declared.scope.Kind.TheVariants.{Var, Chan}

-- The kind of each name in scope.
abbrev pub Environment : Type 0
Environment = ℕ → Option Kind

-- The value of each variable. What it says of other numbers doesn't matter.
abbrev pub Values : Type 0
Values = ℕ → ℕ

-- A set of events, as the test of what belongs to it.
abbrev pub EventSet : Type 0
EventSet = Event → Bool

-- What was communicated so far, the oldest first.
abbrev pub Trace : Type 0
Trace = List Event

abbrev pub with_name : Environment → ℕ → Kind → Environment
with_name Γ x kind = λ y. if y == x then Some kind else Γ y

abbrev pub with_value : Values → ℕ → ℕ → Values
with_value s x v = λ y. if y == x then v else s y

-- the environment of a list of names with their kinds
abbrev pub environment : List (Name × Kind) → Environment
environment [] = λ x. None
environment (entry ∷ entries) = with_name (environment entries) entry.0.0 entry.1

-- the values that a list gives to its names
abbrev pub values : List (Name × ℕ) → Values
values [] = λ x. 0
values (entry ∷ entries) = with_value (values entries) entry.0.0 entry.1

-- the set of the events of a list
abbrev pub same_dir : Dir → Dir → Bool
same_dir Input Input = true
same_dir Output Output = true
same_dir Input Output = false
same_dir Output Input = false

abbrev pub same_event : Event → Event → Bool
same_event e f = e.chan.0 == f.chan.0 && same_dir e.dir f.dir && e.value == f.value

abbrev pub among : List Event → EventSet
among [] = λ e. false
among (f ∷ fs) = λ e. if same_event e f then true else among fs e

-- the width of a variable or a channel
abbrev pub variable_kind : Option Kind → Option Width
variable_kind (Some (Var width)) = Some width
variable_kind (Some (Chan width dir)) = None
variable_kind None = None

abbrev pub channel_kind : Option Kind → Option Width
channel_kind (Some (Chan width dir)) = Some width
channel_kind (Some (Var width)) = None
channel_kind None = None

abbrev pub variable_width : Environment → ℕ → Option Width
variable_width Γ x = variable_kind (Γ x)

abbrev pub channel_width : Environment → ℕ → Option Width
channel_width Γ c = channel_kind (Γ c)

-- whether a value has the width, if there is one
abbrev pub has_width : Option Width → ℕ → Bool
has_width (Some width) v = nat_lt v (2 ^ bits_of width)
has_width None v = false

-- An event of the environment is on a channel in scope, in either direction, with a value of the channel's width.
abbrev pub in_scope : Environment → EventSet
in_scope Γ e = has_width (channel_width Γ e.chan.0) e.value

-- A state gives each variable in scope a value of its width.
abbrev pub IsState : Environment → Values → Type 0
IsState Γ s = (x : ℕ) (width : Width) → variable_width Γ x ≡ Some width → s x < 2 ^ bits_of width

-- a set of events of the environment
abbrev pub IsWithin : Environment → EventSet → Type 0
IsWithin Γ X = (e : Event) → X e ≡ true → in_scope Γ e ≡ true

-- whether a channel may be used in that direction: it is in scope, and not a parameter marked for the other one
abbrev pub allows : Option Kind → Dir → Bool
allows (Some (Chan width None)) d = true
allows (Some (Chan width (Some mark))) d = same_dir mark d
allows (Some (Var width)) d = false
allows None d = false

-- An event of an interface is one of its environment in a direction that the channel's mark allows.
abbrev pub in_interface : Environment → EventSet
in_interface Γ e = in_scope Γ e && allows (Γ e.chan.0) e.dir
