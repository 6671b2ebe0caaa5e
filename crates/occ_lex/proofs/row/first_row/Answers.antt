use Rattle.std.proofs.Common.{sym}
use Rattle.occ_lex.proofs.RowLemmas.{first_row_feed, first_row_whole}
use Rattle.occ_lex.proofs.row.first_row.Goals as goal

pub returns-in-Some : goal.returns-in-Some
returns-in-Some c = first_row_feed c.args.text.now c.in-Some.place (sym c.in-Some.ensures)

pub returns-in-None : goal.returns-in-None
returns-in-None c = first_row_whole c.args.text.now (sym c.in-None.ensures)
