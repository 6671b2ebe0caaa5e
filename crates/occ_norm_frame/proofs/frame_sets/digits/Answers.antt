use Rattle.std.proofs.Common.{refl}
use Rattle.occ_weave.proofs.from_node.Table.{rows-keeps}
use Rattle.occ_norm_frame.proofs.Worlds.{extends_sets, right_sets}
use Rattle.occ_norm_frame.proofs.frame_sets.digits.Goals as goal

pub invariant_of-world-inside : goal.invariant_of-world-inside
invariant_of-world-inside c =
    let w = c.world.inside.lifting.weaver.world in
    record { right = rows-keeps w.store c.word.new.store c.word.ensures.keeps w.rows.keys w.right }

pub invariant_of-world : goal.invariant_of-world
invariant_of-world c = right_sets c.world.inside.lifting _ c.word.ensures.keeps refl refl c.world.invariant

pub returns-clause-extends : goal.returns-clause-extends
returns-clause-extends c = extends_sets _ c.args.world.now _ c.world.view_is c.word.ensures.keeps refl refl
