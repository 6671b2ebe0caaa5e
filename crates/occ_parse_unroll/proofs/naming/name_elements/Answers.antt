use Rattle.std.proofs.Common.{◌≡◌, ◌+◌, ◌-◌, Some, ap, ◌∙◌, arith}
use Rattle.occ_parse_forms.proofs.from_lex.Interned.{extends_trans}
use Rattle.occ_parse_unroll.specs.Numbers.{numbering}
use Rattle.occ_parse_unroll.proofs.Declaring.{one_element}
use Rattle.occ_parse_unroll.specs.Elements.{brought_one}
use Rattle.occ_parse_unroll.proofs.Elements.{one_element_more}
use Rattle.occ_parse_unroll.proofs.naming.name_elements.Goals as goal

pub loop-k-preserved : goal.loop-k-preserved
loop-k-preserved g c =
    let n : c.args.count - c.loop-k.k ≡ c.args.count - (c.loop-k.k + 1) + 1 = omega arith in
    record {
      whole = λ t f.
          one_element (numbering (g.S.Numbering.number c.args.source.now t)) c.args.kind c.args.array.0 c.loop-k.k _ _ c.in_ok-name.name _ _ n
          (c.in_ok-name.ensures.number t f ∙ ap (λ k. numbering (g.S.Numbering.number c.args.source.now t) c.args.array.0 (Some k)) c.from.ensures) c.in_ok-push.ensures.ok
          ∙ c.loop-k.invariant.whole t (extends_trans _ _ _ c.in_ok-name.ensures.extends f);
      table = one_element_more (g.S.Numbering.brings c.args.source.now) c.args.array.0 c.loop-k.k _ _ _ _ n
          (c.in_ok-name.ensures.table ∙ ap (λ k. brought_one (g.S.Numbering.brings c.args.source.now) c.loop-k.names c.args.array.0 (Some k)) c.from.ensures)
          ∙ c.loop-k.invariant.table;
      grown = extends_trans _ _ _ c.loop-k.invariant.grown c.in_ok-name.ensures.extends;
    }
