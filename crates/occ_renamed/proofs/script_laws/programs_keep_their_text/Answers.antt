use Rattle.occ_renamed.proofs.Texts.{program_text_under}
use Rattle.occ_renamed.proofs.script_laws.programs_keep_their_text.Goals as goal

pub returns : goal.returns
returns c = λ f names other name params body h. program_text_under f names other h name params body
