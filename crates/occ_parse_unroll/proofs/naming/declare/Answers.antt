use Rattle.std.proofs.Common.{length, ◌∙◌}
use Rattle.occ_parse_forms.proofs.from_lex.Interned.{extends_trans, longer}
use Rattle.occ_parse_unroll.specs.Known.{IsKnownDeclared}
use Rattle.occ_parse_unroll.specs.Numbers.{numbering}
use Rattle.occ_parse_unroll.proofs.Declaring.{one_declared, one_scope}
use Rattle.occ_parse_unroll.proofs.Known.{all_at_or, declared_known}
use Rattle.occ_parse_rules.specs.Places.{places}
use Rattle.occ_parse_unroll.proofs.Elements.{one_more}
use Rattle.occ_parse_unroll.proofs.naming.declare.Goals as goal

pub name_places-requires : goal.name_places-requires
name_places-requires g c =
    λ n. declared_known _ _ _ (longer _ _ c.loop-d.invariant.grown)
    (all_at_or (IsKnownDeclared (length c.args.names.now)) c.args.declared.now c.loop-d.d-index _ (c.requires n) c.loop-d-test.true)

pub loop-d-preserved : goal.loop-d-preserved
loop-d-preserved g c = record {
  scopes = one_scope _ _ _ _ _ _ _ c.loop-d-test.true c.sort_of.ensures c.in_ok-declare.ensures.ok ∙ c.loop-d.invariant.scopes;
  values = c.loop-d.invariant.values;
  waiting = λ t f. one_declared (numbering (g.S.Numbering.number c.args.source.now t)) _ _ _ _ _ _ c.loop-d-test.true (c.in_ok-name_places.ensures.waiting t f)
      ∙ c.loop-d.invariant.waiting t (extends_trans _ _ _ c.in_ok-name_places.ensures.extends f);
  table = one_more (g.S.Numbering.brings c.args.source.now) places c.args.declared.now _ _ _ _ c.loop-d-test.true c.in_ok-name_places.ensures.table ∙ c.loop-d.invariant.table;
  grown = extends_trans _ _ _ c.loop-d.invariant.grown c.in_ok-name_places.ensures.extends;
}
