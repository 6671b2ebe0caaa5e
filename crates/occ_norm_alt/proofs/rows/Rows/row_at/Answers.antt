use Rattle.std.proofs.Common.{ap, get_or, sym, subst}
use Rattle.std.proofs.lemmas.Result.{IfOk-weaker}
use Rattle.occ_norm_frame.proofs.from_choice.Choosing.{inputs_known}
use Rattle.occ_norm_frame.specs.occ_choice.Branches.{inputs_from}
use Rattle.occ_norm_frame.specs.occ_node.declared.world.World.{World}
use Rattle.occ_norm_frame.specs.occ_follow.Sequence.{HasNodes}
use Rattle.occ_norm_frame.proofs.Worlds.{alt_with, extends_at, extends_leads, leads_with, node_rows, right_lead}
use Rattle.occ_norm_alt.specs.Inputs.{AreNexts}
use Rattle.occ_norm_alt.proofs.AtOnce.{nexts_known, row_inputs}
use Rattle.occ_norm_alt.proofs.rows.Rows.row_at.Goals as goal

pub prefix_in-requires-clause-nexts : goal.prefix_in-requires-clause-nexts
prefix_in-requires-clause-nexts c n d l =
    let i = c.args.self.inputs in
    let next = c.args.self.next in
    let v = c.args.world.now in
    node_rows v c.world.inside.lifting.weaver.world (ap (λ (w : World). w.rows) c.world.view_is) (get_or c.deref.result.now n d)
    (nexts_known v i.first i.bits next c.args.state c.deref.result.now i.within c.ranges.state.fits c.requires
    (subst (AreNexts v i.first i.bits next c.args.state) (sym c.deref.ensures.value) c.in_ok-nodes.ensures) n d l)

pub invariant_of-world : goal.invariant_of-world
invariant_of-world c = right_lead c.world.inside.lifting c.prefix_in.new.world c.prefix_in.ensures.leads c.world.invariant

pub returns-clause-extends : goal.returns-clause-extends
returns-clause-extends c =
    let w = c.world.inside.lifting.weaver.world in
    let u = record w { maps = c.world.inside.maps } in
    let z = record c.prefix_in.new.world { maps = c.world.inside.maps } in
    extends_at u c.args.world.now z c.world.view_is (extends_leads u z (leads_with u w c.prefix_in.new.world c.prefix_in.ensures.leads))

pub returns-clause-row : goal.returns-clause-row
returns-clause-row c =
    let i = c.args.self.inputs in
    let next = c.args.self.next in
    let nodes = c.deref.result.now in
    let w = c.world.inside.lifting.weaver.world in
    let u = record w { maps = c.world.inside.maps } in
    let z = record c.prefix_in.new.world { maps = c.world.inside.maps } in
    let has = subst (λ v. HasNodes v next) (sym c.world.view_is) c.requires in
    let are = subst (λ v. AreNexts v i.first i.bits next c.args.state nodes) (sym c.world.view_is)
    (subst (AreNexts c.args.world.now i.first i.bits next c.args.state) (sym c.deref.ensures.value) c.in_ok-nodes.ensures) in
    let known = nexts_known u i.first i.bits next c.args.state nodes i.within c.ranges.state.fits has are in
    IfOk-weaker c.prefix_in.result _ _
    (λ a is. row_inputs u z (extends_leads u z (leads_with u w c.prefix_in.new.world c.prefix_in.ensures.leads)) i.chan i.first i.bits next c.args.state nodes a i.within c.ranges.state.fits has are
    (alt_with u w c.prefix_in.new.world (inputs_from i.chan 0 nodes) a (inputs_known u i.chan 0 nodes known) is))
    c.prefix_in.ensures.prefix
