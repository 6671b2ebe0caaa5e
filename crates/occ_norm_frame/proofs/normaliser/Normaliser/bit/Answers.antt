use Rattle.std.proofs.Common.{refl}
use Rattle.occ_weave.proofs.from_node.Table.{rows-keeps}
use Rattle.occ_norm_frame.proofs.Worlds.{extends_sets, right_sets}
use Rattle.occ_norm_frame.proofs.normaliser.Normaliser.bit.Goals as goal

pub invariant_of-self-inside : goal.invariant_of-self-inside
invariant_of-self-inside c =
    let w = c.self.inside.lifting.weaver.world in
    record { right = rows-keeps w.store c.bit.new.self c.bit.ensures.keeps w.rows.keys w.right }

pub invariant_of-self : goal.invariant_of-self
invariant_of-self c = right_sets c.self.inside.lifting _ c.bit.ensures.keeps refl refl c.self.invariant

pub returns-clause-extends : goal.returns-clause-extends
returns-clause-extends c = extends_sets _ c.args.self.now _ c.self.view_is c.bit.ensures.keeps refl refl
