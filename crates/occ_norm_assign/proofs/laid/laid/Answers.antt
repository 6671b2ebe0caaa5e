use Rattle.std.proofs.Common.{length, ap, sym, subst, arith}
use Rattle.std.proofs.lemmas.Result.{IfOk-weaker}
use Rattle.occ_norm_frame.proofs.Worlds.{extends_leads, extends_trans, has_nodes-extends}
use Rattle.occ_norm_assign.proofs.Laying.{laid_whole}
use Rattle.occ_norm_assign.proofs.Listing.{got_within}
use Rattle.occ_norm_assign.specs.Lists.{AreLed, IsSpread}
use Rattle.occ_norm_assign.proofs.laid.laid.Goals as goal

pub spread-requires-clause-within : goal.spread-requires-clause-within
spread-requires-clause-within c =
    let e = ap length c.deref.ensures.value in
    let all = c.in_ok-nodes.ensures.led.all in
    let count = c.requires.to.count in
    omega (arith, e, all, count)

pub spread-requires-clause-there : goal.spread-requires-clause-there
spread-requires-clause-there c i a g =
    let led = subst (λ ns. AreLed c.led.new.world c.args.frame.now.keep c.args.to.now c.args.rest (length c.args.to.now) ns) (sym c.deref.ensures.value) c.in_ok-nodes.ensures.led in
    led.there i a (let h = got_within c.deref.result.now a i g in let all = led.all in omega (arith, h, all)) g

pub returns-clause-extends : goal.returns-clause-extends
returns-clause-extends c = extends_trans c.args.world.now c.led.new.world c.spread.new.world (extends_leads c.args.world.now c.led.new.world c.led.ensures.goes) c.spread.ensures.extends

pub returns-clause-laid : goal.returns-clause-laid
returns-clause-laid c = IfOk-weaker c.spread.result _ _
    (λ r is. laid_whole c.led.new.world c.spread.new.world c.spread.ensures.extends c.args.frame.now.keep c.args.frame.now.bits c.args.to.now c.args.rest c.in_ok-nodes.nodes.items r c.requires.to
    (has_nodes-extends c.args.world.now c.led.new.world (extends_leads c.args.world.now c.led.new.world c.led.ensures.goes) c.args.rest c.requires.rest)
    c.in_ok-nodes.ensures.led (subst (λ ns. IsSpread c.spread.new.world ns c.args.frame.now.bits 0 r) c.deref.ensures.value is))
    c.spread.ensures.spread
