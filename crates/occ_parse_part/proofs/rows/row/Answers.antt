use Rattle.std.proofs.Common.{◌≡◌, ◌+◌, ◌-◌, ◌≤◌, sym, subst, ◌∙◌, arith}
use Rattle.occ_parse_forms.proofs.from_lex.Interned.{extends_same, extends_trans, longer}
use Rattle.occ_parse.specs.occ_parse_unroll.Elements.{with_element}
use Rattle.occ_parse.proofs.from_parse_unroll.Elements.{one_element_more}
use Rattle.occ_syntax.specs.occ_base.Names.{IsDistinct}
use Rattle.occ_parse.proofs.Places.{places_distinct}
use Rattle.occ_parse_rules.specs.Places.{elements_from}
use Rattle.occ_parse.specs.occ_parse_unroll.Elements.{with_places}
use Rattle.occ_parse_part.proofs.Counted.{places_done, row_counted, row_done, row_one}
use Rattle.occ_parse_part.proofs.rows.row.Goals as goal

pub element-requires : goal.element-requires
element-requires c = omega (arith, c.requires, longer _ _ c.loop-k.invariant.grown)

pub loop-k-preserved : goal.loop-k-preserved
loop-k-preserved c =
    let n : c.args.count - c.loop-k.k ≡ c.args.count - (c.loop-k.k + 1) + 1 = omega arith in
    let s = c.in_ok-element.ensures in
    record {
      whole = λ t f. row_one t c.args.array.0 c.loop-k.k _ _ c.in_ok-element.field-0 _ _ n (s.number t f) c.in_ok-push.ensures.items
          ∙ c.loop-k.invariant.whole t (extends_trans _ _ _ s.extends f);
      table = one_element_more with_element c.args.array.0 c.loop-k.k _ _ _ _ n s.table ∙ c.loop-k.invariant.table;
      grown = extends_trans _ _ _ c.loop-k.invariant.grown s.extends;
    }

pub returns-clause-row : goal.returns-clause-row
returns-clause-row c = λ t f.
    let done : c.args.count ≤ c.loop-k.k = omega (arith, c.loop-k-test.false) in
    sym (row_done t c.args.array.0 c.args.count c.loop-k.k _ done) ∙ c.loop-k.invariant.whole t f

pub returns-clause-table : goal.returns-clause-table
returns-clause-table c =
    let done : c.args.count ≤ c.loop-k.k = omega (arith, c.loop-k-test.false) in
    sym (places_done _ c.args.array.0 c.args.count c.loop-k.k done) ∙ c.loop-k.invariant.table

pub returns-clause-distinct : goal.returns-clause-distinct
returns-clause-distinct c =
    let done : c.args.count ≤ c.loop-k.k = omega (arith, c.loop-k-test.false) in
    let table : c.loop-k.names ≡ with_places c.args.names.now (elements_from c.args.array.0 0 c.args.count) = sym (places_done _ c.args.array.0 c.args.count c.loop-k.k done) ∙ c.loop-k.invariant.table in
    subst IsDistinct (sym table) (places_distinct c.args.names.now (elements_from c.args.array.0 0 c.args.count) c.text.ensures.distinct)

pub returns-clause-length : goal.returns-clause-length
returns-clause-length c =
    let done : c.args.count ≤ c.loop-k.k = omega (arith, c.loop-k-test.false) in
    row_counted c.loop-k.names c.args.array.0 c.args.count c.loop-k.row.items
    (sym (row_done c.loop-k.names c.args.array.0 c.args.count c.loop-k.k _ done) ∙ c.loop-k.invariant.whole c.loop-k.names (extends_same c.loop-k.names))
