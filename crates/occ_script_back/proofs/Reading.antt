-- The text of printed lines behind another text has these lines.
use Rattle.std.proofs.Common.{◌≡◌, ℕ, ◌+◌, List, [], ◌∷◌, ◌++◌, length, map, drop, Option, None, refl, ap, sym, ◌∙◌}
use Rattle.std.proofs.lemmas.List.{drop_at, drop-drop}
use Rattle.occ_script_write.specs.occ_lex.declared.fault.LineFault.{LineFault}
use Rattle.occ_script_write.specs.occ_lex.declared.token.Line.{Line}
use Rattle.occ_script_write.specs.occ_lex.declared.token.TokenKind.{TokenKind}
use Rattle.occ_script_write.specs.occ_lex.Printed.{Printed, printed_line, printed_lines, printed_text, ArePrinted}
use Rattle.occ_script_write.specs.occ_lex.Rows.{read_rows, rows}
use Rattle.occ_script_write.specs.occ_lex.Words.{words_of, printed_words}
use Rattle.occ_script_write.proofs.from_lex.Printing.{rows_again}
use Rattle.occ_script_write.proofs.from_lex.WordLemmas.{line_spelled}
use Rattle.occ_script_write.specs.occ_lex.Symbols.{rows_of, with_names_of_all}
use Rattle.occ_print_back.specs.occ_parse_rules.Places.{Place}
use Rattle.occ_script_write.specs.occ_print.Lines.{TextLine}
use Rattle.occ_script_write.specs.occ_print.Spelled.{printed, lines_text}
use Rattle.occ_print_back.specs.Placed.{IsTable, LinesAreSayable}
use Rattle.occ_print_back.specs.Read.{line_rows}
use Rattle.occ_print_back.proofs.Rows.{rows_at, table_at}
use Rattle.occ_print_back.proofs.Spacing.{are_printed}

spelled_from : (text : List ℕ) (number place : ℕ) (lines : List Printed) → ArePrinted lines → drop place text ≡ printed_text lines
    → map (words_of text) (printed_lines number place lines) ≡ map printed_words lines
spelled_from text number place [] are at = refl
spelled_from text number place (line ∷ lines) are at =
    let next = place + length (printed_line line) in
    let later : drop next text ≡ printed_text lines =
    sym (drop-drop (length (printed_line line)) place text) ∙ ap (drop (length (printed_line line))) at ∙ drop_at (printed_line line) (printed_text lines) (length (printed_line line)) refl in
    ap (λ (words : List (TokenKind × List ℕ)). words ∷ map (words_of text) (printed_lines (number + 1) next lines)) (line_spelled text (printed_text lines) number place line are.0 at)
    ∙ ap (λ (others : List (List (TokenKind × List ℕ))). printed_words line ∷ others) (spelled_from text (number + 1) next lines are.1 later)

-- Lines behind a text.
pub record AreBehind (names : List (List ℕ)) (P : ℕ → Place) (front : List ℕ) (number : ℕ) (ls : List TextLine) : Type 0 where
  pub faultless : (read_rows number (length front) (rows (lines_text names ls))).1 ≡ None
  pub rows_are : rows_of (front ++ lines_text names ls) names (read_rows number (length front) (rows (lines_text names ls))).0 ≡ line_rows P number ls
  pub table : with_names_of_all (front ++ lines_text names ls) names (read_rows number (length front) (rows (lines_text names ls))).0 ≡ names

module _ (names : List (List ℕ)) (P : ℕ → Place) (table : IsTable names P) where
  pub lines_behind : (front : List ℕ) (number : ℕ) (ls : List TextLine) → LinesAreSayable (length names) ls → AreBehind names P front number ls
  lines_behind front number ls h =
      let all = map (printed names) ls in
      let are = are_printed names P table ls h in
      let text = front ++ lines_text names ls in
      let e = rows_again number (length front) all are in
      let w = spelled_from text number (length front) all are (drop_at front (lines_text names ls) (length front) refl) in
      record {
        faultless = ap (λ (r : List Line × Option (ℕ × LineFault)). r.1) e;
        rows_are = ap (λ (r : List Line × Option (ℕ × LineFault)). rows_of text names r.0) e ∙ rows_at names P table text number (length front) ls w h;
        table = ap (λ (r : List Line × Option (ℕ × LineFault)). with_names_of_all text names r.0) e ∙ table_at names P table text number (length front) ls w h;
      }
