use Rattle.std.proofs.Common.{◌≡◌, ◌+◌, ap, get_or, length, ◌∙◌, arith}
use Rattle.std.proofs.lemmas.List.{length_push}
use Rattle.occ_dd.proofs.Callers.{keeps_refl, keeps_trans, known-keeps}
use Rattle.occ_bits.proofs.Reaching.{digits-keep, either_from, more_either, no_either, none}
use Rattle.occ_bits.proofs.compose.either.Goals as goal

pub loop-place-init : goal.loop-place-init
loop-place-init c = record { keeps = keeps_refl c.args.store.now; size = ap length c.new-digits.ensures.items; each = no_either c.args.store.now c.args.set c.args.yes.now c.args.no.now _ c.new-digits.ensures.items }

pub ite-requires-clause-a : goal.ite-requires-clause-a
ite-requires-clause-a c = known-keeps c.args.store.now c.loop-place.store c.loop-place.invariant.keeps c.args.set c.requires.set

pub ite-requires-clause-b : goal.ite-requires-clause-b
ite-requires-clause-b c = known-keeps c.args.store.now c.loop-place.store c.loop-place.invariant.keeps (get_or c.args.yes.now c.loop-place.place none) (c.requires.yes.known c.loop-place.place none (omega arith))

pub ite-requires-clause-c : goal.ite-requires-clause-c
ite-requires-clause-c c = known-keeps c.args.store.now c.loop-place.store c.loop-place.invariant.keeps (get_or c.args.no.now c.loop-place.place none) (c.requires.no.known c.loop-place.place none (omega (arith, c.requires.yes.count, c.requires.no.count)))

pub loop-place-preserved : goal.loop-place-preserved
loop-place-preserved c =
    let k = c.loop-place.invariant.keeps in
    record {
      keeps = keeps_trans c.args.store.now c.loop-place.store c.ite.new.self k c.ite.ensures.keeps;
      size = ap length c.in_ok-push.ensures.items ∙ length_push c.loop-place.digits.items c.in_ok-digit.digit ∙ ap (λ n. n + 1) c.loop-place.invariant.size;
      each = more_either c.loop-place.store c.ite.new.self c.ite.ensures.keeps c.args.set c.args.yes.now c.args.no.now c.loop-place.digits.items c.push.new.self.items c.in_ok-digit.digit c.loop-place.place
          (known-keeps c.args.store.now c.loop-place.store k c.args.set c.requires.set)
          (digits-keep c.args.store.now c.loop-place.store k c.args.yes.now c.requires.yes) (digits-keep c.args.store.now c.loop-place.store k c.args.no.now c.requires.no)
          (omega (arith, c.requires.yes.count)) c.loop-place.invariant.size c.in_ok-digit.ensures.set c.in_ok-push.ensures.items c.loop-place.invariant.each;
    }

pub returns-clause-either : goal.returns-clause-either
returns-clause-either c =
    let k = c.loop-place.invariant.keeps in
    let done : c.loop-place.place ≡ 64 = omega (arith, c.requires.yes.count) in
    either_from c.loop-place.store c.args.set c.args.yes.now c.args.no.now c.loop-place.digits.items
    (digits-keep c.args.store.now c.loop-place.store k c.args.yes.now c.requires.yes) (digits-keep c.args.store.now c.loop-place.store k c.args.no.now c.requires.no)
    (c.loop-place.invariant.size ∙ done) c.loop-place.invariant.each

pub returns-in_err-digit-clause-keeps : goal.returns-in_err-digit-clause-keeps
returns-in_err-digit-clause-keeps c = keeps_trans c.args.store.now c.loop-place.store c.ite.new.self c.loop-place.invariant.keeps c.ite.ensures.keeps

pub returns-in_err-push-clause-keeps : goal.returns-in_err-push-clause-keeps
returns-in_err-push-clause-keeps c = keeps_trans c.args.store.now c.loop-place.store c.ite.new.self c.loop-place.invariant.keeps c.ite.ensures.keeps
