use Rattle.std.proofs.Common.{sym, ap, ◌∙◌}
use Rattle.occ_draw.specs.Adding.{ways_of}
use Rattle.occ_draw.proofs.Found.{found_all, found_further, found_none}
use Rattle.occ_draw.proofs.edges.edges.Goals as goal

pub loop-offer-init : goal.loop-offer-init
loop-offer-init c = record { ways = c.new.ensures.empty ∙ sym (ap ways_of c.new-2.ensures.items); edges = found_none _ c.new-2.ensures.items }

pub loop-offer-preserved : goal.loop-offer-preserved
loop-offer-preserved c = record {
  ways = c.in_ok-add.ensures.ways;
  edges = found_further c.args.offers.now c.loop-offer.offer-index _ _ _ c.loop-offer-test.true c.loop-offer.invariant.edges c.in_ok-add.ensures.edges;
}

pub returns : goal.returns
returns c = found_all c.args.offers.now c.loop-offer.offer-index _ c.loop-offer-test.false c.loop-offer.invariant.edges
