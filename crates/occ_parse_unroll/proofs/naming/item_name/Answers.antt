use Rattle.occ_parse_unroll.specs.Numbers.{numbering}
use Rattle.occ_parse_unroll.specs.Present.{values_of}
use Rattle.occ_parse_unroll.proofs.Elements.{item_name_table, item_below_table, item_element_table}
use Rattle.occ_parse_unroll.proofs.Results.{on_ok}
use Rattle.occ_parse_unroll.proofs.Tables.{item_ok}
use Rattle.occ_parse_unroll.proofs.naming.item_name.Goals as goal

pub returns-in-Some-at-clause-number : goal.returns-in-Some-at-clause-number
returns-in-Some-at-clause-number g c = item_ok (λ t. numbering (g.S.Numbering.number c.args.source.now t)) _ _ _ _ _ c.element.result c.in-Some.is c.in-Some-at.ensures c.element.ensures.number

pub returns-in-None-clause-table : goal.returns-in-None-clause-table
returns-in-None-clause-table g c = item_name_table (g.S.Numbering.brings c.args.source.now) _ (values_of c.args.context.now.values) c.args.item c.in-None.is

pub returns-in-Some-at-clause-table : goal.returns-in-Some-at-clause-table
returns-in-Some-at-clause-table g c =
    on_ok c.element.result _ _
    (item_element_table (g.S.Numbering.brings c.args.source.now) _ _ (values_of c.args.context.now.values) c.args.item _ _ c.in-Some.is c.in-Some-at.ensures)
    c.element.ensures.table

pub returns-in-None-at-clause-table : goal.returns-in-None-at-clause-table
returns-in-None-at-clause-table g c = item_below_table (g.S.Numbering.brings c.args.source.now) _ (values_of c.args.context.now.values) c.args.item _ c.in-Some.is c.in-None-at.ensures
