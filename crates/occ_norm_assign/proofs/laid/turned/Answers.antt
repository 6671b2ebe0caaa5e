use Rattle.std.proofs.Common.{refl, sym, subst}
use Rattle.std.proofs.lemmas.Result.{IfOk-weaker}
use Rattle.occ_norm_frame.specs.occ_node.World.{IsNode, Leads}
use Rattle.occ_norm_frame.proofs.Worlds.{leads_with, node_rows, right_lead}
use Rattle.occ_norm_frame.specs.occ_scope.Results.{IsShifted}
use Rattle.occ_norm_assign.proofs.Laying.{shifted_with}
use Rattle.occ_norm_assign.proofs.laid.turned.Goals as goal

pub shift_with-requires-clause-node : goal.shift_with-requires-clause-node
shift_with-requires-clause-node c =
    let w = c.world.inside.lifting.weaver.world in
    node_rows (record w { maps = c.world.inside.maps }) w refl c.args.node (subst (λ v. IsNode v c.args.node) (sym c.world.view_is) c.requires)

pub invariant_of-world : goal.invariant_of-world
invariant_of-world c =
    let leads = c.shift_with.ensures.leads in
    ((right_lead c.world.inside.lifting c.shift_with.new.world leads c.world.invariant).0, c.shift_with.ensures.shifts)

pub returns-clause-goes : goal.returns-clause-goes
returns-clause-goes c =
    let w = c.world.inside.lifting.weaver.world in
    subst (λ v. Leads v (record c.shift_with.new.world { maps = c.world.inside.maps })) c.world.view_is (leads_with (record w { maps = c.world.inside.maps }) w c.shift_with.new.world c.shift_with.ensures.leads)

pub returns-clause-turned : goal.returns-clause-turned
returns-clause-turned c =
    let w = c.world.inside.lifting.weaver.world in
    let u = record w { maps = c.world.inside.maps } in
    IfOk-weaker c.shift_with.result _ _
    (λ r is. subst (λ v. IsShifted v (record c.shift_with.new.world { maps = c.world.inside.maps }) c.args.change c.args.node r) c.world.view_is (shifted_with u w c.shift_with.new.world c.args.change c.args.node r is)) c.shift_with.ensures.shifted
