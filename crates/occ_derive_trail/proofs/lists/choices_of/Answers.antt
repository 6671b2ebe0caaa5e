use Rattle.std.proofs.Common.{ap, arith, length, ◌∙◌}
use Rattle.std.proofs.lemmas.List.{length-set}
use Rattle.occ_derive_trail.proofs.lists.choices_of.Goals as goal

pub exchange-requires : goal.exchange-requires
exchange-requires c = omega (arith, c.loop-place.invariant, ap length c.items-count.ensures, c.loop-place-test.true)

pub loop-place-preserved : goal.loop-place-preserved
loop-place-preserved c = ap length c.exchange.ensures.put ∙ length-set _ _ _ ∙ c.loop-place.invariant
