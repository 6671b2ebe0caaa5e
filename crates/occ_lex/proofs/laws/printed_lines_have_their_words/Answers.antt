use Rattle.occ_lex.proofs.WordLemmas.{lines_spelled}
use Rattle.occ_lex.proofs.laws.printed_lines_have_their_words.Goals as goal

pub returns : goal.returns
returns c = λ lines are. lines_spelled lines are
