use Rattle.std.proofs.Common.{◌&&◌, not, ◌∙◌, arith}
use Rattle.occ_syntax.specs.View.{exp}
use Rattle.occ_norm_frame.proofs.Placing.{case_condition}
use Rattle.occ_norm_frame.proofs.Worlds.{extends_refl, extends_trans}
use Rattle.occ_norm_par.proofs.Freeing.{condition_states, states-keeps, without_states}
use Rattle.occ_norm_par.proofs.Leaving.{left_more, left_one, left_whole}
use Rattle.occ_norm_par.proofs.choices.states_left.Goals as goal

pub loop-place-init : goal.loop-place-init
loop-place-init c = record {
  extends = extends_refl c.args.world.now;
  last = c.requires.from;
  left = left_one c.args.world.now.store c.args.frame.now.layout c.args.frame.now.bits c.args.from c.args.choices.now c.in_ok-sets.sets.items c.in_ok-sets.ensures.items c.requires.from;
}

pub holds-requires : goal.holds-requires
holds-requires c =
    let frame = c.args.frame.now in
    case_condition frame.vars frame.layout frame.bits frame.kept c.args.choices.now c.loop-place.place c.index-choices-place.result c.requires.choices (omega arith) c.index-choices-place.is

pub loop-place-preserved : goal.loop-place-preserved
loop-place-preserved c =
    let frame = c.args.frame.now in
    let u = c.loop-place.world in
    let v = c.holds.new.world in
    let w = c.without.new.self in
    let more = extends_trans u v w c.holds.ensures.extends c.without.ensures.extends in
    let k = c.holds.ensures.extends.grows.stored in
    let item = c.index-choices-place.result in
    let last = c.loop-place.last in
    let next = c.in_ok-next.next in
    let states = without_states v.store w.store frame.bits last c.in_ok-set.set next (states-keeps u.store v.store k frame.bits last c.loop-place.invariant.last)
    (condition_states v.store frame.vars frame.layout frame.bits frame.kept (exp item.0) c.in_ok-set.set c.in_ok-set.ensures.set) c.in_ok-next.ensures.set in
    record {
      extends = extends_trans c.args.world.now u w c.loop-place.invariant.extends more;
      last = states;
      left = left_more u.store w.store more.grows.stored frame.layout frame.bits c.args.from last next c.args.choices.now c.loop-place.place c.loop-place.sets.items _ c.in_ok-push.ensures.items
          c.loop-place.invariant.left states item c.index-choices-place.is
          (λ x. c.in_ok-next.ensures.set.members x ∙ (λ j. k.same last x c.loop-place.invariant.last.known j && not (c.in_ok-set.ensures.set.members x j)));
    }

pub returns-clause-left : goal.returns-clause-left
returns-clause-left c =
    let frame = c.args.frame.now in
    left_whole c.loop-place.world.store frame.layout frame.bits c.args.from c.loop-place.last c.args.choices.now c.loop-place.place c.loop-place.sets.items (omega arith) c.loop-place.invariant.left
