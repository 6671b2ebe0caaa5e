use Rattle.std.proofs.Common.{◌≡◌, take}
use Rattle.occ_syntax.specs.Counts.{capped}
use Rattle.occ_target.specs.Sizes.{choices_size}
use Rattle.occ_target.proofs.count.choices_size.Given as goal

abbrev pub invariant-loop-offer : goal.invariant-loop-offer
invariant-loop-offer l = l.count ≡ capped (choices_size l.sizes l.chan.0 (take l.offer-index l.offers))
