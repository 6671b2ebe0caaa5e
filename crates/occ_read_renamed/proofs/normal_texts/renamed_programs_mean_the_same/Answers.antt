use Rattle.occ_read_renamed.proofs.Meaning.{same_so}
use Rattle.occ_read_renamed.proofs.normal_texts.renamed_programs_mean_the_same.Goals as goal

pub returns : goal.returns
returns c = λ f params p q one. same_so f one params p q
