use Rattle.occ_lex.proofs.Printing.{text_again}
use Rattle.occ_lex.proofs.laws.printed_text_is_read.Goals as goal

pub returns : goal.returns
returns c = λ lines printed. text_again lines printed
