use Rattle.occ_lex.proofs.Interned.{rows_known}
use Rattle.occ_lex.proofs.symbol_laws.names_are_known.Goals as goal

pub returns : goal.returns
returns c = rows_known
