use Rattle.std.proofs.Common.{sym, ap, ◌∙◌, length}
use Rattle.occ_target.proofs.Below.{row_below}
use Rattle.occ_target.proofs.Built.{grown, sizes_step}
use Rattle.occ_target.proofs.Left.{sizes_done}
use Rattle.occ_target.proofs.count.row_sizes.Goals as goal

pub row_size-requires : goal.row_size-requires
row_size-requires c = row_below c.args.params.now c.args.rows.now c.loop-row.row-index _ c.row-item.result c.requires c.loop-row-test.true c.row-item.is (ap length c.items.ensures ∙ c.loop-row.invariant.count)

pub loop-row-preserved : goal.loop-row-preserved
loop-row-preserved c = record {
  whole = sizes_step c.loop-row.sizes c.items.result.now c.push.new.self c.args.rows.now c.loop-row.row-index c.row-item.result c.in_ok-size.size _ c.loop-row-test.true c.row-item.is c.items.ensures c.in_ok-size.ensures c.in_ok-push.ensures.ok c.loop-row.invariant.whole;
  count = grown c.loop-row.sizes c.push.new.self c.in_ok-size.size c.loop-row.row-index c.in_ok-push.ensures.ok c.loop-row.invariant.count;
}

pub returns-clause-sizes : goal.returns-clause-sizes
returns-clause-sizes c = sym (sizes_done c.loop-row.sizes c.args.rows.now c.loop-row.row-index c.loop-row-test.false) ∙ c.loop-row.invariant.whole
