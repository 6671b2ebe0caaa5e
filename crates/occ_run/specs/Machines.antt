-- A machine as a configuration.
use Rattle.occ_run.specs.declared.machine.Machine.{Machine}
use Rattle.occ_run.specs.declared.machine.Point.{Point}
use Rattle.occ_run.specs.Places.{names_at, values_at}
use Rattle.occ_run.specs.View.{control}
use Rattle.occ_run.specs.Configurations.{Configuration}
use Rattle.occ_run.specs.Effects.{Effect, applied}
use Rattle.occ_syntax.specs.Scopes.{Values}
use Rattle.occ_run_steps.specs.Control.{Control}
use Rattle.occ_run_steps.specs.Step.{Step, changed, leaving}
use Rattle.occ_run_steps.specs.Steps.{steps}
use Rattle.std.specs.Prelude.{List}

abbrev pub configuration : Machine → Configuration
configuration machine = record {
  params = machine.point.place.scope.items;
  values = values_at machine.point.place;
  control = control machine.point.control;
  trace = machine.trace.items;
}

-- the steps at a point
abbrev pub steps_at : Point → List (Step Control)
steps_at point = steps (names_at point.place) (values_at point.place) (control point.control)

-- the values at a point after a step
abbrev pub values_after : Point → Step Effect → Values
values_after point k = changed k.changes (values_at point.place)

-- a step at a point, with what it leaves
abbrev pub step_at : Point → Step Effect → Step Control
step_at point k = leaving (applied (control point.control)) k
