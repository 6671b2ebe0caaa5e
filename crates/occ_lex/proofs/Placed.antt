-- The lines of a text without fault lie in it.
use Rattle.std.proofs.Common.{◌≡◌, ℕ, List, Option, Some, None, Ok, subst}
use Rattle.std.specs.List.{AllByRecursion}
use Rattle.occ_lex.specs.declared.fault.LineFault.{LineFault}
use Rattle.occ_lex.specs.declared.token.Line.{Line}
use Rattle.occ_lex.specs.Placed.{IsLineOf}
use Rattle.occ_lex.specs.Rows.{lines_of, reading_of, whole}
use Rattle.occ_lex.proofs.Placing.{reading_placed}

whole_ok : (read found : List Line) (fault : Option (ℕ × LineFault)) → whole read fault ≡ Ok found → read ≡ found
whole_ok read found None h = cc
whole_ok read found (Some fault) h = absurd cc

pub lines_placed : (text : List ℕ) (lines : List Line) → lines_of text ≡ Ok lines → AllByRecursion (IsLineOf text) lines
lines_placed text lines h =
    subst (AllByRecursion (IsLineOf text)) (whole_ok (reading_of text).0 lines (reading_of text).1 h) (reading_placed text).lines_of_text
