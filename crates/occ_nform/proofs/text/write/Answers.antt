use Rattle.occ_nform.proofs.Written.{if_ok, normal_text_of, rows_named}
use Rattle.occ_nform.proofs.text.write.Goals as goal

pub table_text-requires-clause-rows : goal.table_text-requires-clause-rows
table_text-requires-clause-rows c =
    let normal = c.in_ok-table.ensures.normal in
    rows_named c.args.names.now c.in_ok-table.table.params normal.interface.named c.in_ok-table.table.rows normal.rows

pub returns : goal.returns
returns c =
    let t = c.in_ok-table.table in
    let e = c.in_ok-table.ensures in
    if_ok c.table_text.result
    (λ text is distinct. normal_text_of c.args.names.now c.args.world c.args.root.now t.params t.rows t.states c.requires.interface.bits c.requires.nodes e.params c.bound_rows.ensures e.normal e.behaviours text.items is distinct)
    c.table_text.ensures.text c.table_text.ensures.distinct
