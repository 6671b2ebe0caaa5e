-- What orders make of a program, and why they stop.
use Rattle.std.specs.Prelude.{ℕ, ◌≡◌, ◌≤◌, List}
use Rattle.std.specs.List.{AllByRecursion}
use Rattle.occ_engine.specs.declared.fault.EngineFault.{EngineFault}
use Rattle.occ_engine.specs.declared.fault.EngineFault.TheVariants as fault
use Rattle.occ_engine.specs.declared.fault.Stopped.{Stopped}
use Rattle.occ_engine.specs.declared.fault.Stopped.TheVariants as stopped
use Rattle.occ_engine.specs.declared.outcome.Outcome.{Outcome}
use Rattle.occ_engine.specs.Moved.{moves_of}
use Rattle.occ_replay_rules.specs.Moves.{Moves}
use Rattle.occ_replay_rules.specs.Orders.{Follows, Order, Stops, no_law, no_path, not_accepted, not_applicable}
use Rattle.occ_script_write.specs.declared.writing.Done.{Done}
use Rattle.occ_syntax.specs.declared.scope.Program.{Program}
use Rattle.occ_syntax.specs.View.{tree}

-- a law of the table
pub record IsTabled (done : Done) : Type 0 where
  pub low : 1 ≤ done.law.0
  pub high : done.law.0 ≤ 63

-- The steps are moves from one program to another of the same name and the same parameters, each by a law of the table.
pub record IsOutcome (from : Program) (outcome : Outcome) : Type 0 where
  pub name : outcome.to.name ≡ from.name
  pub params : outcome.to.params ≡ from.params
  pub moves : Moves from.params (tree from.body) (moves_of outcome.steps) (tree outcome.to.body)
  pub tabled : AllByRecursion IsTabled outcome.steps

-- orders are followed by steps
pub record IsLed (from : Program) (orders : List Order) (steps : List Done) (to : Program) : Type 0 where
  pub name : to.name ≡ from.name
  pub params : to.params ≡ from.params
  pub followed : Follows from.params (tree from.body) orders (moves_of steps) (tree to.body)

abbrev pub IsLedOut : Program → List Order → Outcome → Type 0
IsLedOut from orders outcome = IsLed from orders outcome.steps outcome.to

-- what stops an order, with its number
abbrev pub fault_of : Stopped → ℕ → EngineFault
fault_of stopped.NoLaw k = fault.NoLaw k
fault_of stopped.NoPath k = fault.NoPath k
fault_of stopped.NotAccepted k = fault.NotAccepted k
fault_of stopped.NotApplicable k = fault.NotApplicable k
fault_of stopped.Memory k = fault.Memory

-- orders stop at the one of that number; out of memory says nothing
abbrev pub AreStopped : Program → List Order → EngineFault → Type 0
AreStopped from orders (fault.NoLaw k) = Stops from.params (tree from.body) orders k no_law
AreStopped from orders (fault.NoPath k) = Stops from.params (tree from.body) orders k no_path
AreStopped from orders (fault.NotApplicable k) = Stops from.params (tree from.body) orders k not_applicable
AreStopped from orders (fault.NotAccepted k) = Stops from.params (tree from.body) orders k not_accepted
AreStopped from orders fault.NotPar = ⊥
AreStopped from orders fault.Memory = Unit {0}
