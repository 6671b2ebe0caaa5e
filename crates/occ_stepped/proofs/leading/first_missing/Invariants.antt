use Rattle.std.proofs.Common.{◌≡◌, ◌≤◌, ◌+◌, ◌-◌, length}
use Rattle.occ_run.specs.Configurations.{followed}
use Rattle.occ_run.specs.Machines.{configuration}
use Rattle.occ_stepped.proofs.leading.first_missing.Given as goal

abbrev pub invariant-loop-rest : goal.invariant-loop-rest
invariant-loop-rest l = record {
  within : length l.rest ≤ length l.steps;
  onward : followed 1 (configuration l.fn.machine) l.steps ≡ followed (length l.steps - length l.rest + 1) (configuration l.machine) l.rest;
}

abbrev pub decreases-loop-rest : goal.decreases-loop-rest
decreases-loop-rest l = length l.rest
