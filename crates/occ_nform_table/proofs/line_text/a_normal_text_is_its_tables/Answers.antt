use Rattle.occ_nform_table.proofs.Whole.{normal_text}
use Rattle.occ_nform_table.proofs.line_text.a_normal_text_is_its_tables.Goals as goal

pub returns : goal.returns
returns c = normal_text
