use Rattle.std.proofs.Common.{◌≡◌}
use Rattle.occ_syntax.specs.View.{tree}
use Rattle.occ_run.specs.View.{connecting}
use Rattle.occ_run.proofs.settle.channels_in.Given as goal

abbrev pub invariant-loop-rest : goal.invariant-loop-rest
invariant-loop-rest l = connecting l.channels.items (tree l.rest) ≡ tree l.part
