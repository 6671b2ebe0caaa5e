use Rattle.occ_lex.proofs.Tables.{word_known, sign_known}
use Rattle.occ_lex.proofs.symbol_laws.each_token_has_a_symbol.Goals as goal

pub returns-clause-words : goal.returns-clause-words
returns-clause-words c = word_known

pub returns-clause-signs : goal.returns-clause-signs
returns-clause-signs c = sign_known
