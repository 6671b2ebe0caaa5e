use Rattle.std.proofs.Common.{◌+◌, max, ap, ◌∙◌, arith}
use Rattle.occ_nform.proofs.Counting.{height_end, height_step}
use Rattle.occ_nform.proofs.figures.height_over.Goals as goal

pub loop-row-preserved : goal.loop-row-preserved
loop-row-preserved c = (
  height_step c.args.heights.now c.args.offers.now c.loop-row.row-index _ c.loop-row.height c.max-height.result _ c.loop-row-test.true c.loop-row.invariant.0 (c.max-height.ensures ∙ ap (λ n. max c.loop-row.height (1 + n)) c.height_of.ensures.height),
  omega (arith, c.max-height.ensures, c.loop-row.invariant.1, c.height_of.ensures.most, c.requires),
)

pub returns-clause-height : goal.returns-clause-height
returns-clause-height c = height_end c.args.heights.now c.args.offers.now c.loop-row.row-index c.loop-row.height _ c.loop-row-test.false c.loop-row.invariant.0
