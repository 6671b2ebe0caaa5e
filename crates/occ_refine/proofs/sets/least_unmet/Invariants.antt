use Rattle.std.proofs.Common.{MatchOption, take}
use Rattle.occ_refine.specs.Rows.{is_met, AllMet, IsLeastUnmet}
use Rattle.occ_refine.proofs.sets.least_unmet.Given as goal

abbrev pub invariant-loop-set : goal.invariant-loop-set
invariant-loop-set l = MatchOption l.best (AllMet (take l.set-index l.own) (is_met l.other)) (λ list. IsLeastUnmet l.params (take l.set-index l.own) (is_met l.other) list.items)
