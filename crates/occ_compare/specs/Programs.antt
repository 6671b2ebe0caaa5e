-- Where programs differ, which refine one another, and which can be stuck.
use Rattle.std.specs.Prelude.{◌≡◌, true, List, Option, Some, None}
use Rattle.std.specs.List.{list_all}
use Rattle.occ_syntax.specs.occ_base.declared.event.Event.{Event}
use Rattle.occ_syntax.specs.occ_base.declared.names.Name.{Name}
use Rattle.occ_syntax.specs.declared.scope.Kind.{Kind}
use Rattle.occ_syntax.specs.Tree.{Tree}
use Rattle.occ_syntax.specs.Scopes.{environment, in_interface, values}
use Rattle.occ_syntax.specs.Meaning.{fails, ends}
use Rattle.occ_behaviour.specs.declared.behaviour.Behaviour.{Behaviour}
use Rattle.occ_behaviour.specs.declared.behaviour.Last.{Last}
use Rattle.occ_behaviour.specs.declared.behaviour.Last.TheVariants.{Refuses, Ends}
use Rattle.occ_behaviour.specs.Members.{IsMember, IsOnlyOf}
use Rattle.occ_behaviour.specs.States.{is_state, state_less}
use Rattle.occ_compare.specs.declared.refined.Refined.{Refined}
use Rattle.occ_compare.specs.declared.refined.Refined.TheVariants.{Yes, No}
use Rattle.occ_compare.specs.Views.{Values, Behaviours, IsWithin, AreAlike}
use Rattle.occ_compare.specs.Excess.{IsFirstExcess}
use Rattle.occ_compare.specs.Difference.{IsFirstDifference}
use Rattle.occ_compare.specs.Stuck.{IsFree, IsFirstStuck, RefusesAll}

module _ (ps : List (Name × Kind)) where
  -- what a program of this interface does from a state; it ends in states of the interface
  abbrev pub behaviours_of : Tree → Values → Behaviours
  behaviours_of p s = record {
    fails = λ t X. fails (environment ps) p (values s) t X;
    ends = λ t u. (is_state ps u ≡ true) × ends (environment ps) p (values s) t (values u);
  }

  -- each event is on a channel of the interface, in a direction that its mark allows, with a value of its width
  abbrev pub AreEvents : List Event → Type 0
  AreEvents events = list_all (in_interface (environment ps)) events ≡ true

  abbrev pub LastIsWithin : Last → Type 0
  LastIsWithin (Refuses events) = AreEvents events
  LastIsWithin (Ends s) = is_state ps s ≡ true

  -- all that the behaviour names is of the interface
  pub record IsOfInterface (b : Behaviour) : Type 0 where
    pub state : is_state ps b.state ≡ true
    pub trace : AreEvents b.trace
    pub last : LastIsWithin b.last

  -- The behaviour begins in the least state from which p and q differ, and is their first difference there. It is p's, and not q's.
  pub record IsDifference (p q : Tree) (b : Behaviour) : Type 0 where
    pub within : IsOfInterface b
    pub before : (s : Values) → is_state ps s ≡ true → state_less s b.state ≡ true → AreAlike (behaviours_of p s) (behaviours_of q s)
    pub first : IsFirstDifference ps (behaviours_of p b.state) (behaviours_of q b.state) b.trace b.last
    pub only : IsOnlyOf ps p q b

  -- From every state, all failures and ends of q are p's.
  abbrev pub Refines : Tree → Tree → Type 0
  Refines p q = (s : Values) → is_state ps s ≡ true → IsWithin (behaviours_of q s) (behaviours_of p s)

  -- The behaviour begins in the least state from which q does more than p, and is the first there. It is q's, and not p's.
  pub record IsExcess (p q : Tree) (b : Behaviour) : Type 0 where
    pub within : IsOfInterface b
    pub before : (s : Values) → is_state ps s ≡ true → state_less s b.state ≡ true → IsWithin (behaviours_of q s) (behaviours_of p s)
    pub first : IsFirstExcess ps (behaviours_of p b.state) (behaviours_of q b.state) b.trace b.last
    pub only : IsOnlyOf ps q p b

  -- From no state can it be stuck.
  abbrev pub IsFreeProgram : Tree → Type 0
  IsFreeProgram p = (s : Values) → is_state ps s ≡ true → IsFree ps (behaviours_of p s)

  -- The behaviour begins in the least state from which the program can be stuck, and leads to where it is stuck first. It is one of the
  -- program.
  pub record IsDeadlock (p : Tree) (b : Behaviour) : Type 0 where
    pub within : IsOfInterface b
    pub before : (s : Values) → is_state ps s ≡ true → state_less s b.state ≡ true → IsFree ps (behaviours_of p s)
    pub first : IsFirstStuck ps (behaviours_of p b.state) b.trace
    pub last : RefusesAll ps b.last
    pub member : IsMember ps p b

  -- what `deadlock` answers
  abbrev pub IsDeadlockAnswer : Tree → Option Behaviour → Type 0
  IsDeadlockAnswer p None = IsFreeProgram p
  IsDeadlockAnswer p (Some b) = IsDeadlock p b

  -- what `refine` answers of a first and a second program
  abbrev pub IsRefinement : Tree → Tree → Refined → Type 0
  IsRefinement p q Yes = Refines p q
  IsRefinement p q (No b) = IsExcess p q b
