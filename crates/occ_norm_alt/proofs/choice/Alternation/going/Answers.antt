use Rattle.std.proofs.Common.{refl}
use Rattle.occ_norm_frame.proofs.Worlds.{extends_trans, has_nodes-extends, may_have}
use Rattle.occ_norm_frame.proofs.Keeping.{none_may}
use Rattle.occ_norm_alt.proofs.Steps.{united_from}
use Rattle.occ_norm_alt.proofs.choice.Alternation.going.Goals as goal

pub united-requires-clause-b : goal.united-requires-clause-b
united-requires-clause-b c = c.in_ok-there.ensures.may (may_have c.constant.new.self c.args.next (has_nodes-extends c.args.world.now c.constant.new.self c.constant.ensures.extends c.args.next c.requires.next)) (none_may c.constant.new.self c.in_ok-nothing.nothing c.in_ok-nothing.ensures.map)

pub returns-clause-maps : goal.returns-clause-maps
returns-clause-maps c =
    let u = c.args.world.now in
    let w = c.united.new.self in
    let grow = extends_trans u c.choose.new.self w (extends_trans u c.constant.new.self c.choose.new.self c.constant.ensures.extends c.choose.ensures.extends) c.united.ensures.extends in
    record { waiting = has_nodes-extends u w grow c.args.self.waiting c.requires.maps.waiting; ready = c.in_ok-ready.ensures.may }

pub returns-clause-united : goal.returns-clause-united
returns-clause-united c = (
  refl,
  united_from c.args.world.now c.constant.new.self c.choose.new.self c.united.new.self c.constant.ensures.extends c.choose.ensures.extends c.united.ensures.extends c.args.enabled c.requires.enabled
      c.args.self.ready c.args.next c.in_ok-nothing.nothing c.in_ok-there.there c.in_ok-ready.ready c.requires.next c.in_ok-nothing.ensures.map c.in_ok-there.ensures.map c.in_ok-ready.ensures.united,
)
