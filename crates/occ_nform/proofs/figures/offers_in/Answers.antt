use Rattle.occ_nform.proofs.Counting.{offers_end}
use Rattle.occ_nform.proofs.figures.offers_in.Goals as goal

pub returns : goal.returns
returns c = offers_end c.loop-row.offers c.loop-row.row-index c.args.rows.now c.loop-row-test.false c.loop-row.invariant.0 c.loop-row.invariant.1
