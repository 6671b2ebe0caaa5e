use Rattle.occ_parse_unroll.proofs.Elements.{element_table, interned_extends}
use Rattle.occ_parse_unroll.proofs.Results.{on_ok}
use Rattle.occ_parse_unroll.proofs.Tables.{element_ok}
use Rattle.occ_parse_unroll.proofs.naming.element.Goals as goal

pub returns-clause-number : goal.returns-clause-number
returns-clause-number c =
    element_ok _ _ _ _ _ _ c.intern.result c.requires c.text.ensures.text c.in_ok-text.ensures (rw c.as_slice.ensures.value at c.intern.ensures.number) (rw c.as_slice.ensures.value at c.intern.ensures.table)

pub returns-clause-table : goal.returns-clause-table
returns-clause-table c =
    on_ok c.intern.result _ _
    (element_table _ _ _ _ _ _ c.requires c.text.ensures.text c.in_ok-text.ensures)
    (rw c.as_slice.ensures.value at c.intern.ensures.table)

pub returns-clause-extends : goal.returns-clause-extends
returns-clause-extends c = interned_extends _ _ _ c.intern.result c.intern.ensures.table c.intern.ensures.err
