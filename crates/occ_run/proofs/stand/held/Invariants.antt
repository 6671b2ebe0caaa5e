use Rattle.std.proofs.Common.{◌≡◌, length}
use Rattle.occ_syntax.specs.Scopes.{values}
use Rattle.occ_run.proofs.stand.held.Given as goal

abbrev pub invariant-loop-rest : goal.invariant-loop-rest
invariant-loop-rest l = values l.rest l.name.0 ≡ values l.state l.name.0

abbrev pub decreases-loop-rest : goal.decreases-loop-rest
decreases-loop-rest l = length l.rest
