use Rattle.std.proofs.Common.{refl}
use Rattle.occ_norm_frame.proofs.Worlds.{extends_trans, has_nodes-extends, may_have-extends}
use Rattle.occ_norm_alt.proofs.Steps.{offered_from}
use Rattle.occ_norm_alt.proofs.choice.Alternation.offering.Goals as goal

pub merged-requires-clause-a : goal.merged-requires-clause-a
merged-requires-clause-a c = (has_nodes-extends c.args.world.now c.choose.new.self (extends_trans c.args.world.now c.stop.new.self c.choose.new.self c.stop.ensures.extends c.choose.ensures.extends) c.args.self.waiting c.requires.maps.waiting)

pub merged-requires-clause-b : goal.merged-requires-clause-b
merged-requires-clause-b c = c.in_ok-there.ensures.nodes (has_nodes-extends c.args.world.now c.stop.new.self c.stop.ensures.extends c.args.offered c.requires.offered) c.in_ok-stopped.ensures.nodes

pub returns-clause-maps : goal.returns-clause-maps
returns-clause-maps c =
    let u = c.args.world.now in
    let w = c.merged.new.self in
    let grow = extends_trans u c.choose.new.self w (extends_trans u c.stop.new.self c.choose.new.self c.stop.ensures.extends c.choose.ensures.extends) c.merged.ensures.extends in
    record { waiting = c.in_ok-waiting.ensures.nodes; ready = may_have-extends u w grow c.args.self.ready c.requires.maps.ready }

pub returns-clause-offered : goal.returns-clause-offered
returns-clause-offered c = (
  refl,
  offered_from c.args.world.now c.stop.new.self c.choose.new.self c.merged.new.self c.stop.ensures.extends c.choose.ensures.extends c.merged.ensures.extends c.args.enabled c.requires.enabled
      c.args.self.waiting c.args.offered c.in_ok-stopped.stopped c.in_ok-there.there c.in_ok-waiting.waiting c.requires.offered c.in_ok-stopped.ensures.stop c.in_ok-there.ensures.map c.in_ok-waiting.ensures.merged,
)
