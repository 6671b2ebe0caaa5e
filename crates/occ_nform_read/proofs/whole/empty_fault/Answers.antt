use Rattle.std.proofs.Common.{arith}
use Rattle.occ_nform_read.proofs.Rows.{empty_more, empty_stop, empty_end}
use Rattle.occ_nform_read.proofs.whole.empty_fault.Goals as goal

pub returns-then-is_empty_row : goal.returns-then-is_empty_row
returns-then-is_empty_row c = empty_stop c.args.rows.now c.loop-row.n c.loop-row.row-index c.row-item.result _ (omega arith) c.row-item.is c.if-is_empty_row.ensures c.loop-row.invariant.same

pub loop-row-preserved : goal.loop-row-preserved
loop-row-preserved c = record {
  same = empty_more c.args.rows.now c.loop-row.n c.loop-row.row-index c.row-item.result _ (omega arith) c.row-item.is c.if-is_empty_row.ensures c.loop-row.invariant.same;
  place = omega arith;
}

pub returns : goal.returns
returns c = empty_end c.args.rows.now c.loop-row.n c.loop-row.row-index _ (omega arith) c.loop-row.invariant.same
