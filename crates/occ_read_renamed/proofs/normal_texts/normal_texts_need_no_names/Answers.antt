use Rattle.occ_read_renamed.proofs.Again.{reads_so}
use Rattle.occ_read_renamed.proofs.normal_texts.normal_texts_need_no_names.Goals as goal

pub returns : goal.returns
returns c = reads_so
