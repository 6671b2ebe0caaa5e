-- A program at work as contracts see it, what a step makes of it, and where the numbers of a schedule lead it.
use Rattle.std.specs.Prelude.{ℕ, ◌+◌, ◌++◌, List, [], ◌∷◌, map, Option, None, Some, Result, Ok, Err, slice_get}
use Rattle.occ_syntax.specs.occ_base.declared.event.Event.{Event}
use Rattle.occ_syntax.specs.occ_base.declared.names.Name.{Name}
use Rattle.occ_syntax.specs.declared.scope.Kind.{Kind}
use Rattle.occ_syntax.specs.declared.scope.Program.{Program}
use Rattle.occ_syntax.specs.Scopes.{Environment, Values, Trace, environment, values}
use Rattle.occ_syntax.specs.View.{tree}
use Rattle.occ_run_steps.specs.Control.{Control}
use Rattle.occ_run_steps.specs.Step.{Step, changed, seen}
use Rattle.occ_run_steps.specs.Steps.{steps}
use Rattle.occ_run_steps.specs.Leads.{start, stepped}
use Rattle.occ_run.specs.declared.answer.Move.{Move}
use Rattle.occ_run.specs.declared.answer.Move.TheVariants.{Unseen, Seen}

-- The parameters, the values of the variables, what is left to be done, and the events so far.
pub record Configuration : Type 0 where
  pub params : List (Name × Kind)
  pub values : Values
  pub control : Control
  pub trace : Trace

abbrev pub scope_of : Configuration → Environment
scope_of c = environment c.params

-- the steps of a configuration, in their order
abbrev pub steps_of : Configuration → List (Step Control)
steps_of c = steps (scope_of c) c.values c.control

-- a program before its first step, in that state
abbrev pub started : Program → List (Name × ℕ) → Configuration
started program state = record {
  params = program.params;
  values = values state;
  control = start (environment program.params) (values state) (tree program.body);
  trace = [];
}

-- what is left after a step
abbrev pub after_step : Configuration → Step Control → Configuration
after_step c k = record {
  params = c.params;
  values = changed k.changes c.values;
  control = stepped (scope_of c) c.values k;
  trace = c.trace ++ seen k.event [];
}

abbrev pub then_after : Configuration → Option (Step Control) → Option Configuration
then_after c None = None
then_after c (Some k) = Some (after_step c k)

-- what is left after the step of that number, if there are so many
abbrev pub next_of : Configuration → ℕ → Option Configuration
next_of c n = then_after c (slice_get (steps_of c) n)

abbrev pub if_there : ℕ → Option Configuration → (Configuration → Result Configuration ℕ) → Result Configuration ℕ
if_there k None onward = Err k
if_there k (Some c) onward = onward c

-- Where the numbers of steps lead, each taken in turn from where the one before it led; else which of them is the first
-- that isn't the number of a step there. The first of the list counts as the k-th.
abbrev pub followed : ℕ → Configuration → List ℕ → Result Configuration ℕ
followed k c [] = Ok c
followed k c (n ∷ ns) = if_there k (next_of c n) (λ d. followed (k + 1) d ns)

-- what is seen of a step
abbrev pub move_of : Option Event → Move
move_of None = Unseen
move_of (Some e) = Seen e

abbrev pub moves_of : Configuration → List Move
moves_of c = map (λ k. move_of k.event) (steps_of c)
