use Rattle.std.proofs.Common.{◌≡◌, drop}
use Rattle.occ_syntax.specs.Scopes.{environment}
use Rattle.occ_target.proofs.widths.width_in.Given as goal

abbrev pub invariant-loop-name : goal.invariant-loop-name
invariant-loop-name l = environment l.params l.chan.0 ≡ environment (drop l.name-index l.params) l.chan.0
