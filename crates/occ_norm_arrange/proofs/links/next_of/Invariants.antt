use Rattle.std.proofs.Common.{◌<◌, length}
use Rattle.occ_norm_arrange.proofs.links.next_of.Given as goal

abbrev pub invariant-loop-at : goal.invariant-loop-at
invariant-loop-at l = l.best < length l.waiting
