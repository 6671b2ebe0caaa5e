use Rattle.std.proofs.Common.{◌≡◌, ◌++◌, true, length}
use Rattle.occ_syntax.specs.Types.{scope_kept}
use Rattle.occ_run.specs.Runs.{unheard}
use Rattle.occ_run.specs.Stands.{interface}
use Rattle.occ_run.proofs.stand.refused.Given as goal

abbrev pub invariant-loop-rest : goal.invariant-loop-rest
invariant-loop-rest l = record {
  whole : l.events ++ unheard l.runs (interface l.rest) ≡ unheard l.runs (interface l.place.scope.items);
  kept : scope_kept l.rest ≡ true;
}

abbrev pub decreases-loop-rest : goal.decreases-loop-rest
decreases-loop-rest l = length l.rest
