use Rattle.std.proofs.Common.{◌≡◌, take}
use Rattle.std.specs.List.{sum_by}
use Rattle.occ_syntax.specs.Counts.{capped}
use Rattle.occ_target.specs.Sizes.{acceptance_size}
use Rattle.occ_target.proofs.count.acceptances_size.Given as goal

abbrev pub invariant-loop-set : goal.invariant-loop-set
invariant-loop-set l = l.count ≡ capped (sum_by (acceptance_size l.sizes l.offers) (take l.set-index l.sets))
