use Rattle.occ_lex.proofs.Placing.{reading_placed}
use Rattle.occ_lex.proofs.laws.reading_is_of_its_text.Goals as goal

pub returns : goal.returns
returns c = λ text. reading_placed text
