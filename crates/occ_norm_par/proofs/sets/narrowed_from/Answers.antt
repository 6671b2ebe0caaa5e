use Rattle.std.proofs.Common.{◌<◌, length, arith}
use Rattle.occ_norm_frame.proofs.from_dd.Callers.{all_known-keeps, keeps_refl, keeps_trans, known-keeps}
use Rattle.occ_norm_par.proofs.Freeing.{Digits, digits_next, digits_none}
use Rattle.occ_norm_par.proofs.sets.narrowed_from.Goals as goal

pub loop-place-init : goal.loop-place-init
loop-place-init c = record {
  keeps = keeps_refl c.args.store.now;
  known = c.requires.to;
  states = λ n h is. is;
  those = digits_none c.args.store.now (Digits c.args.store.now c.args.first c.args.digits.now 0) c.args.from c.args.to;
}

pub loop-place-preserved : goal.loop-place-preserved
loop-place-preserved c =
    let s = c.loop-place.store in
    let t = c.narrowed.new.store in
    let before = c.loop-place.invariant in
    let place = c.loop-place.place in
    let lt : place < length c.args.digits.now = omega arith in
    record {
      keeps = keeps_trans c.args.store.now s t before.keeps c.narrowed.ensures.keeps;
      known = c.in_ok-next.ensures.known;
      states = λ n h is. c.in_ok-next.ensures.states n (omega (arith, h, lt)) (before.states n h is);
      those = digits_next s t c.narrowed.ensures.keeps c.args.first place c.args.digits.now c.args.from c.args.to c.loop-place.those c.in_ok-next.next
          (all_known-keeps c.args.store.now s before.keeps c.args.digits.now c.requires.digits) lt
          (known-keeps c.args.store.now s before.keeps c.args.from c.requires.from) (known-keeps c.args.store.now s before.keeps c.args.to c.requires.to) before.known before.those c.in_ok-next.ensures.those;
    }
