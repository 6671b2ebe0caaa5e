use Rattle.std.proofs.Common.{length, sym, subst, ap, arith}
use Rattle.occ_parse_forms.specs.Shape.{said}
use Rattle.occ_parse_forms.proofs.from_lex.Interned.{longer}
use Rattle.occ_parse_unroll.specs.Known.{IsKnownSaid}
use Rattle.occ_parse_unroll.proofs.Known.{said_known}
use Rattle.occ_parse_unroll.proofs.Words.{words}
use Rattle.occ_parse_unroll.specs.Present.{values_of}
use Rattle.occ_parse_unroll.proofs.Elements.{operation_table}
use Rattle.occ_parse_unroll.proofs.expression.+expression.Goals as goal

pub expression-requires-in-Two-2 : goal.expression-requires-in-Two-2
expression-requires-in-Two-2 g t c κs within =
    let e = ap (λ p. words (said p)) c.in-Two.is in
    let d = ap (λ p. words (said p)) c.deref-in-Two-4.ensures in (
      omega (arith, e, d, c.decreases),
      (
        within,
        λ n.
            let both = subst (λ p. IsKnownSaid (length c.args.names.now) (said p)) c.in-Two.is (c.requires n) in
            let right = subst (λ p. IsKnownSaid (length c.args.names.now) (said p)) (sym c.deref-in-Two-4.ensures) both.1 in
            said_known _ _ (said c.deref-in-Two-4.result.now) (longer _ _ c.in_ok-left-in-Two.ensures.extends) right,
      ),
    )

pub returns-in_ok-new-in-Two-2-clause-table : goal.returns-in_ok-new-in-Two-2-clause-table
returns-in_ok-new-in-Two-2-clause-table g t c =
    operation_table (g.S.Numbering.brings c.args.source.now) _ _ _ c.args.context.now.scopes (values_of c.args.context.now.values) (said c.args.phrase.now) c.in-Two.op
    _ _ (said c.deref-in-Two-3.result.now) (said c.deref-in-Two-4.result.now)
    (ap said c.in-Two.is) (ap said c.deref-in-Two-3.ensures) (ap said c.deref-in-Two-4.ensures) c.in_ok-left-in-Two.ensures.table c.in_ok-right-in-Two.ensures.table
