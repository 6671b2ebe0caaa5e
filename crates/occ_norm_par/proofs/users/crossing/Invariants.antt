use Rattle.std.proofs.Common.{◌≡◌, ◌++◌, drop}
use Rattle.occ_norm_par.specs.Sides.{crossing}
use Rattle.occ_norm_par.proofs.users.crossing.Given as goal

abbrev pub invariant-loop-user : goal.invariant-loop-user
invariant-loop-user l = l.chans.items ++ crossing l.low l.mid l.high (drop l.user-index l.users) ≡ crossing l.low l.mid l.high l.users
