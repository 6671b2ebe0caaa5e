use Rattle.occ_nform.proofs.Apart.{one_table_of}
use Rattle.occ_nform.proofs.law.programs_have_one_table.Goals as goal

pub returns : goal.returns
returns c = one_table_of
