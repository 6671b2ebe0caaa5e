use Rattle.std.proofs.Common.{refl}
use Rattle.occ_weave.proofs.from_node.Behaviours.{leads_store}
use Rattle.occ_weave.proofs.from_node.Table.{rows-keeps}
use Rattle.occ_norm_frame.proofs.Worlds.{leads_at, right_sets}
use Rattle.occ_norm_frame.proofs.normaliser.Normaliser.zeros.Goals as goal

pub invariant_of-self-inside : goal.invariant_of-self-inside
invariant_of-self-inside c =
    let w = c.self.inside.lifting.weaver.world in
    record { right = rows-keeps w.store c.zeros.new.store c.zeros.ensures.keeps w.rows.keys w.right }

pub invariant_of-self : goal.invariant_of-self
invariant_of-self c = right_sets c.self.inside.lifting _ c.zeros.ensures.keeps refl refl c.self.invariant

pub returns-clause-leads : goal.returns-clause-leads
returns-clause-leads c =
    let u = record c.self.inside.lifting.weaver.world { maps = c.self.inside.maps } in
    leads_at u c.args.self.now _ c.self.view_is (leads_store u _ c.zeros.ensures.keeps refl refl)
