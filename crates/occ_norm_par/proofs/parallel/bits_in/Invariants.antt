use Rattle.std.proofs.Common.{◌≡◌}
use Rattle.occ_norm_par.specs.Sides.{bits_in}
use Rattle.occ_norm_par.proofs.parallel.bits_in.Given as goal

abbrev pub invariant-loop-next : goal.invariant-loop-next
invariant-loop-next l = l.bits ≡ bits_in l.writes l.place l.next
