use Rattle.occ_renamed.proofs.Texts.{part_text_under}
use Rattle.occ_renamed.proofs.script_laws.parts_keep_their_text.Goals as goal

pub returns : goal.returns
returns c = λ f names other level p h. part_text_under f names other h level p
