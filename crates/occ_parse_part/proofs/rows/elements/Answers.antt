use Rattle.std.proofs.Common.{◌≤◌, length, sym, refl, ◌∙◌, arith}
use Rattle.occ_parse_forms.proofs.from_lex.Interned.{extends_trans, longer}
use Rattle.occ_parse_part.proofs.Counted.{array_more, array_table, arrays_done, known_at, table_done}
use Rattle.occ_parse_part.proofs.rows.elements.Goals as goal

pub row-requires : goal.row-requires
row-requires c = known_at _ _ c.args.arrays.now c.loop-array.array-index _ c.requires c.loop-array-test.true (longer _ _ c.loop-array.invariant.grown)

pub add-requires : goal.add-requires
add-requires c = omega (arith, c.in_ok-row.ensures.length)

pub loop-array-preserved : goal.loop-array-preserved
loop-array-preserved c =
    let s = c.in_ok-row.ensures in
    let arrays = c.args.arrays.now in
    let i = c.loop-array.array-index in
    record {
      whole = λ t f. array_more arrays i _ _ c.loop-array-test.true refl t 256 _ _ _ refl (s.row t f) c.in_ok-add.ensures
          ∙ c.loop-array.invariant.whole t (extends_trans _ _ _ s.extends f);
      table = array_table arrays i _ _ c.loop-array-test.true refl _ _ 256 refl s.table ∙ c.loop-array.invariant.table;
      grown = extends_trans _ _ _ c.loop-array.invariant.grown s.extends;
      distinct = λ h. s.distinct;
    }

pub returns-clause-elements : goal.returns-clause-elements
returns-clause-elements c = λ t f.
    let done : length c.args.arrays.now ≤ c.loop-array.array-index = omega (arith, c.loop-array-test.false) in
    sym (arrays_done t _ c.args.arrays.now c.loop-array.array-index done) ∙ c.loop-array.invariant.whole t f

pub returns-clause-table : goal.returns-clause-table
returns-clause-table c =
    let done : length c.args.arrays.now ≤ c.loop-array.array-index = omega (arith, c.loop-array-test.false) in
    sym (table_done _ c.args.arrays.now c.loop-array.array-index done) ∙ c.loop-array.invariant.table

pub returns-clause-distinct : goal.returns-clause-distinct
returns-clause-distinct c = λ h. c.loop-array.invariant.distinct (omega (arith, h, c.loop-array-test.false))
