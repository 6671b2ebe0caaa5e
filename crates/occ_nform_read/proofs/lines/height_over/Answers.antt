use Rattle.std.proofs.Common.{arith}
use Rattle.occ_nform_read.proofs.Rows.{height_more, height_low, height_end}
use Rattle.occ_nform_read.proofs.lines.height_over.Goals as goal

pub loop-offer-preserved : goal.loop-offer-preserved
loop-offer-preserved c = record {
  same = height_more c.args.heights.now c.args.offers.now c.loop-offer.offer-index c.loop-offer.height c.greater-height.result _ _ (omega arith) c.greater-height.ensures c.loop-offer.invariant.same;
  low = height_low c.args.heights.now c.args.offers.now c.loop-offer.offer-index c.loop-offer.height c.greater-height.result _ (omega arith) c.requires.low c.requires.within c.greater-height.ensures c.loop-offer.invariant.low;
}

pub returns-clause-value : goal.returns-clause-value
returns-clause-value c = height_end c.args.heights.now c.args.offers.now c.loop-offer.offer-index c.loop-offer.height _ (omega arith) c.loop-offer.invariant.same
