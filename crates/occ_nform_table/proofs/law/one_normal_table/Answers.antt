use Rattle.occ_nform_table.proofs.Unique.{one_normal_table}
use Rattle.occ_nform_table.proofs.law.one_normal_table.Goals as goal

pub returns : goal.returns
returns c = one_normal_table
