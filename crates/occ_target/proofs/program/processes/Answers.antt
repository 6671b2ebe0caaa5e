use Rattle.std.proofs.Common.{sym, ap, ◌∙◌, length, map}
use Rattle.occ_syntax.specs.View.{in_procs, tree}
use Rattle.occ_target.proofs.Below.{row_below}
use Rattle.occ_target.proofs.Built.{grown, processes_step}
use Rattle.occ_target.proofs.Left.{processes_done}
use Rattle.occ_target.proofs.program.processes.Goals as goal

pub row_process-requires : goal.row_process-requires
row_process-requires c = row_below c.args.params.now c.args.rows.now c.loop-row.row-index _ c.row-item.result c.requires c.loop-row-test.true c.row-item.is (ap length c.items.ensures ∙ c.loop-row.invariant.count)

pub loop-row-preserved : goal.loop-row-preserved
loop-row-preserved c = record {
  whole = processes_step c.args.params.now c.args.inputs.now (in_procs c.loop-row.made) c.items.result.now (in_procs c.push.new.self) c.args.rows.now c.loop-row.row-index c.row-item.result c.in_ok-part.part _
      c.loop-row-test.true c.row-item.is c.items.ensures c.in_ok-part.ensures c.in_ok-push.ensures.ok c.loop-row.invariant.whole;
  count = grown (in_procs c.loop-row.made) (in_procs c.push.new.self) c.in_ok-part.part c.loop-row.row-index c.in_ok-push.ensures.ok c.loop-row.invariant.count;
}

pub returns-clause-parts : goal.returns-clause-parts
returns-clause-parts c = sym (processes_done c.args.params.now c.args.inputs.now (map tree (in_procs c.loop-row.made)) c.args.rows.now c.loop-row.row-index c.loop-row-test.false) ∙ c.loop-row.invariant.whole
