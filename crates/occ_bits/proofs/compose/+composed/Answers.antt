use Rattle.std.proofs.Common.{◌-◌, sym, ◌∙◌, arith}
use Rattle.occ_dd.proofs.Callers.{keeps_trans, known-keeps}
use Rattle.occ_bits.proofs.Composing.{composed_more, keep_composed-keeps, keep_composed_learnt}
use Rattle.occ_bits.proofs.Reaching.{digits-keep}
use Rattle.occ_bits.proofs.compose.+composed.Goals as goal

pub returns-in_err-zero-clause-memo : goal.returns-in_err-zero-clause-memo
returns-in_err-zero-clause-memo t c = keep_composed-keeps c.args.store.now c.fixed.new.store c.fixed.ensures.keeps c.args.digits.now c.requires.digits c.args.memo.now c.requires.memo

pub returns-in_err-one-clause-memo : goal.returns-in_err-one-clause-memo
returns-in_err-one-clause-memo t c =
    keep_composed-keeps c.args.store.now c.fixed-2.new.store (keeps_trans c.args.store.now c.fixed.new.store c.fixed-2.new.store c.fixed.ensures.keeps c.fixed-2.ensures.keeps) c.args.digits.now c.requires.digits c.args.memo.now c.requires.memo

pub composed-requires : goal.composed-requires
composed-requires t c =
    let k = keeps_trans c.args.store.now c.fixed.new.store c.fixed-2.new.store c.fixed.ensures.keeps c.fixed-2.ensures.keeps in (
      omega (arith, c.decreases, c.if-left-eq0.false),
      (
        digits-keep c.args.store.now c.fixed-2.new.store k c.args.digits.now c.requires.digits,
        (
          omega (arith, c.requires.left, c.if-left-eq0.false),
          (
            known-keeps c.fixed.new.store c.fixed-2.new.store c.fixed-2.ensures.keeps c.in_ok-zero.zero c.in_ok-zero.ensures.set.known,
            keep_composed-keeps c.args.store.now c.fixed-2.new.store k c.args.digits.now c.requires.digits c.args.memo.now c.requires.memo,
          ),
        ),
      ),
    )

pub returns-in_err-made-clause-memo : goal.returns-in_err-made-clause-memo
returns-in_err-made-clause-memo t c =
    let k01 = keeps_trans c.args.store.now c.fixed.new.store c.fixed-2.new.store c.fixed.ensures.keeps c.fixed-2.ensures.keeps in
    let k03 = keeps_trans c.args.store.now c.fixed-2.new.store c.composed.new.store k01 c.composed.ensures.keeps in
    let k04 = keeps_trans c.args.store.now c.composed.new.store c.composed-2.new.store k03 c.composed-2.ensures.keeps in
    keep_composed-keeps c.composed-2.new.store c.ite.new.self c.ite.ensures.keeps c.args.digits.now (digits-keep c.args.store.now c.composed-2.new.store k04 c.args.digits.now c.requires.digits) c.composed-2.new.memo c.composed-2.ensures.memo

pub returns-in_err-insert-clause-memo : goal.returns-in_err-insert-clause-memo
returns-in_err-insert-clause-memo t c =
    let k01 = keeps_trans c.args.store.now c.fixed.new.store c.fixed-2.new.store c.fixed.ensures.keeps c.fixed-2.ensures.keeps in
    let k03 = keeps_trans c.args.store.now c.fixed-2.new.store c.composed.new.store k01 c.composed.ensures.keeps in
    let k04 = keeps_trans c.args.store.now c.composed.new.store c.composed-2.new.store k03 c.composed-2.ensures.keeps in
    keep_composed_learnt c.ite.new.self c.args.digits.now c.composed-2.new.memo c.insert.new.self (record { first = c.args.left; second = c.args.set.0; third = 0 }) c.in_ok-made.made
    (keep_composed-keeps c.composed-2.new.store c.ite.new.self c.ite.ensures.keeps c.args.digits.now (digits-keep c.args.store.now c.composed-2.new.store k04 c.args.digits.now c.requires.digits) c.composed-2.new.memo c.composed-2.ensures.memo)
    (composed_more c.args.store.now c.fixed.new.store c.fixed-2.new.store c.composed.new.store c.composed-2.new.store c.ite.new.self c.fixed.ensures.keeps c.fixed-2.ensures.keeps c.composed.ensures.keeps c.composed-2.ensures.keeps c.ite.ensures.keeps
    c.args.digits.now c.requires.digits (c.args.left - 1) c.args.left c.args.set c.in_ok-zero.zero c.in_ok-one.one c.in_ok-low.low c.in_ok-high.high c.in_ok-made.made
    (omega (arith, c.requires.left, c.if-left-eq0.false)) (omega (arith, c.if-left-eq0.false)) c.requires.set
    c.in_ok-zero.ensures.set c.in_ok-one.ensures.set c.in_ok-low.ensures.composed c.in_ok-high.ensures.composed c.in_ok-made.ensures.set)
    c.insert.ensures

pub returns-clause-memo : goal.returns-clause-memo
returns-clause-memo t c =
    let k01 = keeps_trans c.args.store.now c.fixed.new.store c.fixed-2.new.store c.fixed.ensures.keeps c.fixed-2.ensures.keeps in
    let k03 = keeps_trans c.args.store.now c.fixed-2.new.store c.composed.new.store k01 c.composed.ensures.keeps in
    let k04 = keeps_trans c.args.store.now c.composed.new.store c.composed-2.new.store k03 c.composed-2.ensures.keeps in
    keep_composed_learnt c.ite.new.self c.args.digits.now c.composed-2.new.memo c.insert.new.self (record { first = c.args.left; second = c.args.set.0; third = 0 }) c.in_ok-made.made
    (keep_composed-keeps c.composed-2.new.store c.ite.new.self c.ite.ensures.keeps c.args.digits.now (digits-keep c.args.store.now c.composed-2.new.store k04 c.args.digits.now c.requires.digits) c.composed-2.new.memo c.composed-2.ensures.memo)
    (composed_more c.args.store.now c.fixed.new.store c.fixed-2.new.store c.composed.new.store c.composed-2.new.store c.ite.new.self c.fixed.ensures.keeps c.fixed-2.ensures.keeps c.composed.ensures.keeps c.composed-2.ensures.keeps c.ite.ensures.keeps
    c.args.digits.now c.requires.digits (c.args.left - 1) c.args.left c.args.set c.in_ok-zero.zero c.in_ok-one.one c.in_ok-low.low c.in_ok-high.high c.in_ok-made.made
    (omega (arith, c.requires.left, c.if-left-eq0.false)) (omega (arith, c.if-left-eq0.false)) c.requires.set
    c.in_ok-zero.ensures.set c.in_ok-one.ensures.set c.in_ok-low.ensures.composed c.in_ok-high.ensures.composed c.in_ok-made.ensures.set)
    c.insert.ensures

pub returns-clause-composed : goal.returns-clause-composed
returns-clause-composed t c =
    composed_more c.args.store.now c.fixed.new.store c.fixed-2.new.store c.composed.new.store c.composed-2.new.store c.ite.new.self c.fixed.ensures.keeps c.fixed-2.ensures.keeps c.composed.ensures.keeps c.composed-2.ensures.keeps c.ite.ensures.keeps
    c.args.digits.now c.requires.digits (c.args.left - 1) c.args.left c.args.set c.in_ok-zero.zero c.in_ok-one.one c.in_ok-low.low c.in_ok-high.high c.in_ok-made.made
    (omega (arith, c.requires.left, c.if-left-eq0.false)) (omega (arith, c.if-left-eq0.false)) c.requires.set
    c.in_ok-zero.ensures.set c.in_ok-one.ensures.set c.in_ok-low.ensures.composed c.in_ok-high.ensures.composed c.in_ok-made.ensures.set
