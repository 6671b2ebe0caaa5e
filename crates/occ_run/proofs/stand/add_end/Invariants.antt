use Rattle.std.proofs.Common.{◌≡◌, ◌++◌}
use Rattle.occ_run.specs.Runs.{unheard}
use Rattle.occ_run.specs.Stands.{events_below}
use Rattle.occ_run.proofs.stand.add_end.Given as goal

abbrev pub invariant-loop-number : goal.invariant-loop-number
invariant-loop-number l = l.events ≡ l.initial.events ++ unheard l.runs (events_below l.end l.number)
