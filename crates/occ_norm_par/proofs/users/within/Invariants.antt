use Rattle.std.proofs.Common.{◌≡◌, ◌++◌, drop}
use Rattle.occ_norm_par.specs.Sides.{closed_in}
use Rattle.occ_norm_par.proofs.users.within.Given as goal

abbrev pub invariant-loop-user : goal.invariant-loop-user
invariant-loop-user l = l.chans.items ++ closed_in l.low l.high (drop l.user-index l.users) ≡ closed_in l.low l.high l.users
