use Rattle.occ_nform_table.proofs.TextRows.{one_row}
use Rattle.occ_nform_table.proofs.table_text.one_text_one_row.Goals as goal

pub returns : goal.returns
returns c = one_row
