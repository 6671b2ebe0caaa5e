use Rattle.std.proofs.Common.{◌≡◌, ◌+◌, length, sym, subst, arith}
use Rattle.occ_norm_frame.proofs.from_node.Behaviours.{leads_refl, leads_trans}
use Rattle.occ_norm_frame.proofs.Worlds.{extends_leads, has_nodes-extends}
use Rattle.occ_norm_assign.proofs.Laying.{led_more, none_led, turned_leads}
use Rattle.occ_norm_assign.specs.Lists.{AreLed, at, change_at}
use Rattle.occ_norm_assign.proofs.laid.led.Goals as goal

pub loop-place-init : goal.loop-place-init
loop-place-init c = record {
  goes = leads_refl c.args.world.now;
  most = omega arith;
  led = none_led c.args.world.now c.args.keep c.args.to.now c.args.rest _ c.in_ok-nodes.ensures.items;
}

pub node_at-there-requires : goal.node_at-there-requires
node_at-there-requires c = has_nodes-extends c.args.world.now c.loop-place.world (extends_leads c.args.world.now c.loop-place.world c.loop-place.invariant.goes) c.args.rest c.requires

pub loop-place-preserved : goal.loop-place-preserved
loop-place-preserved c =
    let v = c.loop-place.world in
    let w = c.turned.new.world in
    let place = c.loop-place.place in
    let has = has_nodes-extends c.args.world.now v (extends_leads c.args.world.now v c.loop-place.invariant.goes) c.args.rest c.requires in
    record {
      goes = leads_trans c.args.world.now v w c.loop-place.invariant.goes c.turned.ensures.goes;
      most = omega (arith, c.loop-place-test.true, c.loop-place.auto.place-end);
      led = subst (AreLed w c.args.keep c.args.to.now c.args.rest (c.loop-place.place + 1)) (sym c.in_ok-push.ensures.items)
          (led_more v w c.turned.ensures.goes c.args.keep c.args.to.now c.args.rest c.loop-place.place c.loop-place.nodes.items c.in_ok-node.node
          has c.loop-place.invariant.led c.in_ok-node.ensures.turned.known
          (turned_leads v w c.turned.ensures.goes c.args.rest has (at c.args.to.now place) (change_at c.args.keep c.args.to.now place) c.node_at-there.result c.in_ok-node.node c.node_at-there.ensures.there c.node_at-there.ensures.value c.in_ok-node.ensures.turned));
    }

pub returns-clause-led : goal.returns-clause-led
returns-clause-led c =
    let m = c.loop-place.invariant.most in
    let e : c.loop-place.place ≡ length c.args.to.now = omega (arith, m, c.loop-place-test.false, c.loop-place.auto.place-end) in
    subst (λ n. AreLed c.loop-place.world c.args.keep c.args.to.now c.args.rest n c.loop-place.nodes.items) e c.loop-place.invariant.led
