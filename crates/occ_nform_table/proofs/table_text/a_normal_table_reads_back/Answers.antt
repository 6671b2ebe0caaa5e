use Rattle.occ_nform_table.proofs.TextTables.{reads_back}
use Rattle.occ_nform_table.proofs.table_text.a_normal_table_reads_back.Goals as goal

pub returns : goal.returns
returns c = reads_back
