use Rattle.std.proofs.Common.{MatchOption, take}
use Rattle.occ_compare.specs.Steps.{AllIn, IsLeastOnly}
use Rattle.occ_compare.proofs.sets.least_only.Given as goal

abbrev pub invariant-loop-set : goal.invariant-loop-set
invariant-loop-set l = MatchOption l.best (AllIn (take l.set-index l.own) l.other) (λ list. IsLeastOnly l.params (take l.set-index l.own) l.other list.items)
