use Rattle.occ_print.proofs.Texts.{level_more}
use Rattle.occ_print.proofs.level.push_spaces.Goals as goal

pub loop-level-preserved : goal.loop-level-preserved
loop-level-preserved c = level_more c.loop-level._level c.args.text.now.items _ _ c.loop-level.invariant c.in_ok-extend_from_slice.ensures.items
