use Rattle.std.proofs.Common.{sym, ◌∙◌, arith}
use Rattle.occ_refine.proofs.Least.{extra_tells, none_extra}
use Rattle.occ_refine.proofs.ends.least_extra.Goals as goal

pub returns-then-is_extra : goal.returns-then-is_extra
returns-then-is_extra c = extra_tells c.args.store.now c.args.params.now c.args.own c.args.other c.states.number c.assignment-bits.result c.assignment-bits.ensures
    (omega (arith, c.last_number-last.ensures, c.states.invariant.within)) (sym c.is_extra.ensures ∙ c.if-is_extra.true) c.states.invariant.before

pub returns-then-number-last : goal.returns-then-number-last
returns-then-number-last c = none_extra c.args.store.now c.args.params.now c.args.own c.args.other c.states.number c.assignment-bits.result c.assignment-bits.ensures
    (omega (arith, c.last_number-last.ensures)) (sym c.is_extra.ensures ∙ c.if-is_extra.false) c.states.invariant.before
