-- Which behaviours belong to a program, and what a verdict on two programs says.
use Rattle.std.specs.Prelude.{ℕ, ◌≡◌, ◌<◌, true, List, length}
use Rattle.std.specs.List.{All}
use Rattle.occ_syntax.specs.occ_base.declared.event.Event.{Event}
use Rattle.occ_syntax.specs.occ_base.declared.names.Name.{Name}
use Rattle.occ_syntax.specs.declared.scope.Kind.{Kind}
use Rattle.occ_syntax.specs.Tree.{Tree}
use Rattle.occ_syntax.specs.Scopes.{environment, values, among}
use Rattle.occ_syntax.specs.Meaning.{fails, ends}
use Rattle.occ_syntax.specs.Same.{SAME}
use Rattle.occ_behaviour.specs.declared.behaviour.Behaviour.{Behaviour}
use Rattle.occ_behaviour.specs.declared.behaviour.Last.{Last}
use Rattle.occ_behaviour.specs.declared.behaviour.Last.TheVariants.{Refuses, Ends}
use Rattle.occ_behaviour.specs.declared.behaviour.Side.TheVariants.{First, Second}
use Rattle.occ_behaviour.specs.declared.behaviour.Verdict.{Verdict}
use Rattle.occ_behaviour.specs.declared.behaviour.Verdict.TheVariants.{Same, Differ}
use Rattle.occ_behaviour.specs.States.{is_state}

-- from the behaviour's state, after its trace, a program of this interface can stand so
abbrev pub Stands : List (Name × Kind) → Tree → Behaviour → Last → Type 0
Stands params p b (Refuses events) = fails (environment params) p (values b.state) b.trace (among events)
Stands params p b (Ends state) = (is_state params state ≡ true) × ends (environment params) p (values b.state) b.trace (values state)

-- The behaviour is one of the program.
pub record IsMember (params : List (Name × Kind)) (p : Tree) (b : Behaviour) : Type 0 where
  pub state : is_state params b.state ≡ true
  pub stands : Stands params p b b.last

-- The behaviour belongs to the first of two programs, and not to the second.
pub record IsOnlyOf (params : List (Name × Kind)) (p q : Tree) (b : Behaviour) : Type 0 where
  pub member : IsMember params p b
  pub no_member : IsMember params q b → ⊥

-- The verdict is right: the programs mean the same, or the behaviour belongs to exactly the one that is named.
abbrev pub IsRight : List (Name × Kind) → Tree → Tree → Verdict → Type 0
IsRight params p q Same = SAME (environment params) p q
IsRight params p q (Differ b First) = IsOnlyOf params p q b
IsRight params p q (Differ b Second) = IsOnlyOf params q p b

-- each event's channel is a name of the table
abbrev pub AreNamed : List (List ℕ) → List Event → Type 0
AreNamed names events = All (λ e. e.chan.0 < length names) events

abbrev pub LastIsNamed : List (List ℕ) → Last → Type 0
LastIsNamed names (Refuses events) = AreNamed names events
LastIsNamed names (Ends state) = Unit {0}

pub record IsNamed (names : List (List ℕ)) (b : Behaviour) : Type 0 where
  pub trace : AreNamed names b.trace
  pub last : LastIsNamed names b.last

abbrev pub VerdictIsNamed : List (List ℕ) → Verdict → Type 0
VerdictIsNamed names Same = Unit {0}
VerdictIsNamed names (Differ b side) = IsNamed names b
