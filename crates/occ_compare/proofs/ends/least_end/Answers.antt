use Rattle.std.proofs.Common.{◌≡◌, ◌<◌, ◌+◌, ◌^◌, sym, ◌∙◌, subst, arith}
use Rattle.occ_syntax.specs.Counts.{bits_of_scope}
use Rattle.occ_bits.specs.occ_dd.Store.{has}
use Rattle.occ_compare.specs.Steps.{IsSide}
use Rattle.occ_compare.proofs.Searching.{end_tells, same_ends}
use Rattle.occ_compare.proofs.ends.least_end.Goals as goal

pub returns-in-Some : goal.returns-in-Some
returns-in-Some c =
    let x = c.assignment-bits.result in
    let sides : IsSide (has c.args.store.now c.args.a x) (has c.args.store.now c.args.b x) c.in-Some.only =
    subst (λ t. IsSide t (has c.args.store.now c.args.b x) c.in-Some.only) c.has.ensures (subst (λ t. IsSide c.has.result t c.in-Some.only) c.has-in-loop-only.ensures c.in-Some.ensures) in
    end_tells c.args.store.now c.args.params.now c.args.a c.args.b c.in-Some.only c.loop-only.number x c.assignment-bits.ensures
    (omega (arith, c.last_number-last.ensures, c.loop-only.invariant.within)) sides c.loop-only.invariant.before

pub returns-then-number-last : goal.returns-then-number-last
returns-then-number-last c = same_ends c.args.store.now c.args.params.now c.args.a c.args.b c.loop-only.number c.assignment-bits.result c.assignment-bits.ensures
    (omega (arith, c.last_number-last.ensures)) (sym c.has.ensures ∙ c.in_default.ensures ∙ c.has-in-loop-only.ensures) c.loop-only.invariant.before
