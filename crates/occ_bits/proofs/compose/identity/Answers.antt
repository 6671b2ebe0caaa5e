use Rattle.std.proofs.Common.{◌≡◌, ◌+◌, ap, length, ◌∙◌, arith}
use Rattle.std.proofs.lemmas.List.{length_push}
use Rattle.occ_dd.proofs.Callers.{keeps_refl, keeps_trans}
use Rattle.occ_bits.proofs.Reaching.{identity_from, more_bits, no_bits}
use Rattle.occ_bits.proofs.compose.identity.Goals as goal

pub loop-bit-init : goal.loop-bit-init
loop-bit-init c = record { keeps = keeps_refl c.args.store.now; size = ap length c.new-digits.ensures.items; each = no_bits c.args.store.now _ c.new-digits.ensures.items }

pub loop-bit-preserved : goal.loop-bit-preserved
loop-bit-preserved c = record {
  keeps = keeps_trans c.args.store.now c.loop-bit.store c.bit.new.self c.loop-bit.invariant.keeps c.bit.ensures.keeps;
  size = ap length c.in_ok-push.ensures.items ∙ length_push c.loop-bit.digits.items c.in_ok-set.set ∙ ap (λ n. n + 1) c.loop-bit.invariant.size;
  each = more_bits c.loop-bit.store c.bit.new.self c.bit.ensures.keeps c.loop-bit.digits.items c.push.new.self.items c.in_ok-set.set c.loop-bit.bit c.loop-bit.invariant.size c.in_ok-set.ensures.set c.in_ok-push.ensures.items c.loop-bit.invariant.each;
}

pub returns-clause-identity : goal.returns-clause-identity
returns-clause-identity c =
    let done : c.loop-bit.bit ≡ 64 = omega arith in
    identity_from c.loop-bit.store c.loop-bit.digits.items (c.loop-bit.invariant.size ∙ done) c.loop-bit.invariant.each

pub returns-in_err-set-clause-keeps : goal.returns-in_err-set-clause-keeps
returns-in_err-set-clause-keeps c = keeps_trans c.args.store.now c.loop-bit.store c.bit.new.self c.loop-bit.invariant.keeps c.bit.ensures.keeps
