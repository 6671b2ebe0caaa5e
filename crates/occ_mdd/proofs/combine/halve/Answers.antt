use Rattle.std.proofs.Common.{arith, sym, ◌∙◌}
use Rattle.occ_mdd.proofs.Combining.{pair_halved}
use Rattle.occ_mdd.proofs.combine.halve.Goals as goal

pub returns-then-depth-eq0 : goal.returns-then-depth-eq0
returns-then-depth-eq0 g c = record { none = λ e. sym c.deepest-depth.ensures.depth ∙ c.if-depth-eq0.true; some = λ pair e. absurd (cc) }

pub parts-a_low-requires-clause-top : goal.parts-a_low-requires-clause-top
parts-a_low-requires-clause-top g c = omega (arith, c.deepest-depth.ensures.depth, c.if-depth-eq0.false)

pub parts-b_low-requires-clause-top : goal.parts-b_low-requires-clause-top
parts-b_low-requires-clause-top g c = omega (arith, c.deepest-depth.ensures.depth, c.if-depth-eq0.false)

pub returns : goal.returns
returns g c = pair_halved _ _ _ (record {
  within = omega (arith, c.deepest-depth.ensures.bound, c.if-depth-eq0.false);
  top = omega (arith, c.deepest-depth.ensures.depth, c.if-depth-eq0.false);
  low_part = record { first = c.parts-a_low.ensures.low; second = c.parts-b_low.ensures.low };
  high_part = record { first = c.parts-a_low.ensures.high; second = c.parts-b_low.ensures.high };
})
