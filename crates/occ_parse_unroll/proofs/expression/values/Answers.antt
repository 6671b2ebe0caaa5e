use Rattle.std.proofs.Common.{◌<◌, ◌≤◌, min, length, sym, ◌∙◌, arith}
use Rattle.occ_parse_forms.specs.Shape.{said}
use Rattle.occ_parse_forms.proofs.from_lex.Interned.{extends_trans, longer}
use Rattle.occ_parse_unroll.specs.Known.{IsKnownSaid}
use Rattle.occ_parse_unroll.specs.Numbers.{numbering}
use Rattle.occ_parse_unroll.specs.Present.{values_of}
use Rattle.occ_parse_unroll.proofs.Assigned.{all_values, one_value, said_at}
use Rattle.occ_parse_unroll.proofs.Known.{said_known}
use Rattle.occ_parse_unroll.proofs.Elements.{no_value_left, one_value_more}
use Rattle.occ_parse_unroll.proofs.expression.values.Goals as goal

pub expression-requires : goal.expression-requires
expression-requires g c =
    let within : c.loop-i.i < length c.args.right.now = omega (arith, c.loop-i-test.true, c.min-i-end.ensures) in
    λ n. said_known _ _ (said c.index-right-i.result) (longer _ _ c.loop-i.invariant.grown)
    (said_at (IsKnownSaid (length c.args.names.now)) c.args.right.now c.loop-i.i c.index-right-i.result (c.requires n) within c.index-right-i.is)

pub returns-clause-values : goal.returns-clause-values
returns-clause-values g c = λ t f.
    let ended : min (length c.args.left.now) (length c.args.right.now) ≤ c.loop-i.i = omega (arith, c.loop-i-test.false, c.min-i-end.ensures) in
    sym (all_values (numbering (g.S.Numbering.number c.args.source.now t)) c.args.context.now.scopes (values_of c.args.context.now.values) c.args.left.now c.args.right.now c.loop-i.i c.loop-i.values ended)
    ∙ c.loop-i.invariant.whole t f

pub loop-i-preserved : goal.loop-i-preserved
loop-i-preserved g c =
    let hl : c.loop-i.i < length c.args.left.now = omega (arith, c.loop-i-test.true, c.min-i-end.ensures) in
    let hr : c.loop-i.i < length c.args.right.now = omega (arith, c.loop-i-test.true, c.min-i-end.ensures) in
    let Γ = c.args.context.now.scopes in
    let ρ = values_of c.args.context.now.values in
    record {
      whole = λ t f.
          one_value (numbering (g.S.Numbering.number c.args.source.now t)) Γ ρ c.args.left.now c.args.right.now c.loop-i.i _ c.index-right-i.result _ _ _ _ hl hr c.index-right-i.is
          c.variable_width-width.ensures (c.in_ok-expression.ensures.expression t f) c.in_ok-push.ensures.ok
          ∙ c.loop-i.invariant.whole t (extends_trans _ _ _ c.in_ok-expression.ensures.extends f);
      table = one_value_more (g.S.Numbering.brings c.args.source.now) Γ ρ c.args.left.now c.args.right.now c.loop-i.i c.index-right-i.result _ _ hl hr c.index-right-i.is
          c.in_ok-expression.ensures.table
          ∙ c.loop-i.invariant.table;
      grown = extends_trans _ _ _ c.loop-i.invariant.grown c.in_ok-expression.ensures.extends;
    }

pub returns-clause-table : goal.returns-clause-table
returns-clause-table g c =
    let ended : min (length c.args.left.now) (length c.args.right.now) ≤ c.loop-i.i = omega (arith, c.loop-i-test.false, c.min-i-end.ensures) in
    sym (no_value_left (g.S.Numbering.brings c.args.source.now) c.args.context.now.scopes (values_of c.args.context.now.values) c.args.left.now c.args.right.now c.loop-i.i c.loop-i.names ended)
    ∙ c.loop-i.invariant.table
