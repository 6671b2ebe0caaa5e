use Rattle.std.proofs.Common.{◌≡◌, length}
use Rattle.occ_syntax.specs.Scopes.{channel_width, environment}
use Rattle.occ_run.proofs.place.Place.width.Given as goal

abbrev pub invariant-loop-rest : goal.invariant-loop-rest
invariant-loop-rest l = channel_width (environment l.rest) l.chan.0 ≡ channel_width (environment l.self.scope.items) l.chan.0

abbrev pub decreases-loop-rest : goal.decreases-loop-rest
decreases-loop-rest l = length l.rest
