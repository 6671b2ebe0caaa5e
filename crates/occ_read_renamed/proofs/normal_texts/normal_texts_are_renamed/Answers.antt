use Rattle.occ_read_renamed.proofs.Texts.{text_so}
use Rattle.occ_read_renamed.proofs.normal_texts.normal_texts_are_renamed.Goals as goal

pub returns : goal.returns
returns c = λ f names other params p text d r small h. text_so f names other d r params p text small h
