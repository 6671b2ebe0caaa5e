use Rattle.std.proofs.Common.{◌∙◌, suc, sym, subst, take, add-one, arith}
use Rattle.std.proofs.lemmas.List.{take_all}
use Rattle.occ_norm_frame.specs.occ_bits.Digits.{AreDigits}
use Rattle.occ_norm_frame.proofs.from_bits.Reaching.{digits-keep}
use Rattle.occ_norm_frame.proofs.Placing.{fit_at}
use Rattle.occ_norm_frame.proofs.Worlds.{extends_refl, extends_trans}
use Rattle.occ_syntax.specs.Tree.{seq}
use Rattle.occ_syntax.specs.View.{tree, trees}
use Rattle.occ_norm_assign.specs.Transfer.{IsMade}
use Rattle.occ_norm_assign.proofs.Choosing.{function_made}
use Rattle.occ_norm_assign.proofs.Moving.{made-extends, made_more, none_made}
use Rattle.occ_norm_assign.proofs.Runs.{some_found, trees_next}
use Rattle.occ_norm_assign.proofs.run.composed.Goals as goal

pub loop-place-init : goal.loop-place-init
loop-place-init c = record {
  extends = extends_refl c.identity.new.world;
  made = subst (IsMade c.identity.new.world c.args.frame.now.vars c.args.frame.now.layout (seq (trees (take 0 c.args.parts.now))) c.in_ok-before.before.items) (sym (c.in_ok-now.ensures.items ∙ c.deref.ensures.value))
      (none_made c.identity.new.world c.args.frame.now.vars c.args.frame.now.layout c.in_ok-before.before.items c.in_ok-before.ensures.identity.are);
}

pub loop-place-preserved : goal.loop-place-preserved
loop-place-preserved c =
    let frame = c.args.frame.now in
    let parts = c.args.parts.now in
    let place = c.loop-place.place in
    let before = c.in_ok-before.before.items in
    let v = c.loop-place.world in
    let w = c.moved.new.world in
    let are = digits-keep c.identity.new.world.store v.store c.loop-place.invariant.extends.grows.stored before c.in_ok-before.ensures.identity.are in
    record {
      extends = extends_trans c.identity.new.world v w c.loop-place.invariant.extends c.moved.ensures.extends;
      made = subst (λ n. IsMade w frame.vars frame.layout (seq (trees (take n parts))) before c.in-Some.next.items) (sym (add-one place))
          (made_more w frame.vars frame.layout (trees (take place parts)) (trees (take (suc place) parts)) (tree c.index-parts-place.result) before c.loop-place.now.items c.in-Some.next.items
          (trees_next parts place c.index-parts-place.result (omega arith) c.index-parts-place.is)
          (made-extends v w c.moved.ensures.extends frame.vars frame.layout (seq (trees (take place parts))) before c.loop-place.now.items are c.loop-place.invariant.made)
          (subst (λ ds. IsMade w frame.vars frame.layout (tree c.index-parts-place.result) ds c.in-Some.next.items) c.deref-in-loop-place.ensures.value (some_found _ c.in_ok-next.field-0 c.in-Some.next c.in-Some.is c.in_ok-next.ensures.made)));
    }

pub moved-requires-clause-before : goal.moved-requires-clause-before
moved-requires-clause-before c = subst (AreDigits c.loop-place.world.store) (sym c.deref-in-loop-place.ensures.value) c.loop-place.invariant.made.are

pub moved-requires-clause-part : goal.moved-requires-clause-part
moved-requires-clause-part c = fit_at c.args.frame.now.vars c.args.parts.now c.loop-place.place c.index-parts-place.result c.requires.parts (omega arith) c.index-parts-place.is

pub returns-clause-function : goal.returns-clause-function
returns-clause-function c =
    function_made c.identity.new.world c.loop-place.world c.loop-place.invariant.extends c.args.frame.now.vars c.args.frame.now.layout (seq (trees c.args.parts.now)) c.in_ok-before.before.items c.loop-place.now.items
    c.in_ok-before.ensures.identity
    (subst (λ ps. IsMade c.loop-place.world c.args.frame.now.vars c.args.frame.now.layout (seq (trees ps)) c.in_ok-before.before.items c.loop-place.now.items)
    (take_all c.loop-place.place c.args.parts.now (omega arith)) c.loop-place.invariant.made)
