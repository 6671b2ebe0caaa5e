use Rattle.occ_gen.proofs.Texts.{level_more}
use Rattle.occ_gen.proofs.line.push_margin.Goals as goal

pub loop-step-preserved : goal.loop-step-preserved
loop-step-preserved c = level_more c.loop-step._step c.args.text.now.items _ _ c.loop-step.invariant c.in_ok-extend_from_slice.ensures.items
