-- The text of printed lines reads as their symbols.
use Rattle.std.proofs.Common.{◌≡◌, ℕ, ◌+◌, List, [], ◌∷◌, length, map, Option, None, refl, ap, ◌∙◌}
use Rattle.occ_print.specs.occ_lex.declared.token.Line.{Line}
use Rattle.occ_print.specs.occ_lex.declared.token.Token.{Token}
use Rattle.occ_print.specs.occ_lex.declared.token.TokenKind.{TokenKind}
use Rattle.occ_print.specs.occ_lex.Printed.{Piece, printed_line, printed_lines}
use Rattle.occ_print.specs.occ_lex.Rows.{reading_of}
use Rattle.occ_print.specs.occ_lex.Token.{text_of}
use Rattle.occ_print.specs.occ_lex.Words.{words_of, printed_words}
use Rattle.occ_print.specs.occ_lex.declared.fault.LineFault.{LineFault}
use Rattle.occ_print.proofs.from_lex.Printing.{rows_again}
use Rattle.occ_print.proofs.from_lex.WordLemmas.{lines_spelled}
use Rattle.occ_print.specs.occ_lex.Symbols.{symbol_of, names_with, with_names, with_names_of_all, symbols_of, rows_of}
use Rattle.occ_parse.specs.occ_parse_rules.Places.{Place}
use Rattle.occ_print.specs.Lines.{TextLine}
use Rattle.occ_print.specs.Spelled.{is_header, pieces, printed, lines_text}
use Rattle.occ_print_back.specs.Placed.{IsTable, LinesAreSayable, piece_symbols}
use Rattle.occ_print_back.specs.Read.{symbols_read, line_rows, ReadsAs}
use Rattle.occ_print_back.proofs.Tokens.{AreThere, symbols_back, symbols_there}
use Rattle.occ_print_back.proofs.Spacing.{are_printed}

abbrev Word : Type 0
Word = TokenKind × List ℕ

abbrev first : {A : Type 0} → A → List A → A
first d [] = d
first d (x ∷ xs) = x

abbrev later : {A : Type 0} → List A → List A
later [] = []
later (x ∷ xs) = xs

module _ (names : List (List ℕ)) (P : ℕ → Place) (table : IsTable names P) (text : List ℕ) where
  abbrev token_word : Token → Word
  token_word t = (t.kind, text_of t text)

  abbrev piece_word : Piece → Word
  piece_word p = (p.kind, p.text)

  same_symbols : (ts : List Token) (ps : List Piece) → map token_word ts ≡ map piece_word ps → AreThere names P table ps → symbols_of text names ts ≡ piece_symbols names ps
  same_symbols [] [] e h = refl
  same_symbols [] (p ∷ ps) e h = absurd (cc)
  same_symbols (t ∷ ts) [] e h = absurd (cc)
  same_symbols (t ∷ ts) (p ∷ ps) e h =
      let f : token_word t ≡ piece_word p = ap (first (token_word t)) e in
      let g : names_with names t.kind (text_of t text) ≡ names = ap (λ (w : Word). names_with names w.0 w.1) f ∙ h.0 in
      ap (λ k. symbol_of names t.kind (text_of t text) ∷ symbols_of text k ts) g
      ∙ ap (λ (w : Word). symbol_of names w.0 w.1 ∷ symbols_of text names ts) f
      ∙ ap (λ ss. symbol_of names p.kind p.text ∷ ss) (same_symbols ts ps (ap later e) h.1)

  same_table : (ts : List Token) (ps : List Piece) → map token_word ts ≡ map piece_word ps → AreThere names P table ps → with_names text names ts ≡ names
  same_table [] [] e h = refl
  same_table [] (p ∷ ps) e h = absurd (cc)
  same_table (t ∷ ts) [] e h = absurd (cc)
  same_table (t ∷ ts) (p ∷ ps) e h =
      let f : token_word t ≡ piece_word p = ap (first (token_word t)) e in
      let g : names_with names t.kind (text_of t text) ≡ names = ap (λ (w : Word). names_with names w.0 w.1) f ∙ h.0 in
      ap (λ k. with_names text k ts) g ∙ same_table ts ps (ap later e) h.1

  pub rows_at : (n place : ℕ) (ls : List TextLine) → map (words_of text) (printed_lines n place (map (printed names) ls)) ≡ map printed_words (map (printed names) ls)
      → LinesAreSayable (length names) ls → rows_of text names (printed_lines n place (map (printed names) ls)) ≡ line_rows P n ls
  rows_at n place [] e h = refl
  rows_at n place (l ∷ ls) e h =
      let all = printed_lines n place (map (printed names) (l ∷ ls)) in
      let w = ap (first []) e in
      let there = symbols_there names P table (is_header l.symbols) None l.symbols h.0.1 in
      let next = place + length (printed_line (printed names l)) in
      let later_lines = printed_lines (n + 1) next (map (printed names) ls) in
      let tokens = (first (record { number = 0; level = 0; tokens = [] }) all).tokens in
      ap (λ k. record { number = n; level = l.level; symbols = symbols_of text names tokens } ∷ rows_of text k later_lines) (same_table tokens (pieces names l.symbols) w there)
      ∙ ap (λ ss. record { number = n; level = l.level; symbols = ss } ∷ rows_of text names later_lines)
      (same_symbols tokens (pieces names l.symbols) w there ∙ symbols_back names P table (is_header l.symbols) None l.symbols h.0.1)
      ∙ ap (λ rs. record { number = n; level = l.level; symbols = symbols_read P l.symbols } ∷ rs) (rows_at (n + 1) next ls (ap later e) h.1)

  pub table_at : (n place : ℕ) (ls : List TextLine) → map (words_of text) (printed_lines n place (map (printed names) ls)) ≡ map printed_words (map (printed names) ls)
      → LinesAreSayable (length names) ls → with_names_of_all text names (printed_lines n place (map (printed names) ls)) ≡ names
  table_at n place [] e h = refl
  table_at n place (l ∷ ls) e h =
      let all = printed_lines n place (map (printed names) (l ∷ ls)) in
      let w = ap (first []) e in
      let there = symbols_there names P table (is_header l.symbols) None l.symbols h.0.1 in
      let next = place + length (printed_line (printed names l)) in
      let tokens = (first (record { number = 0; level = 0; tokens = [] }) all).tokens in
      ap (λ k. with_names_of_all text k (printed_lines (n + 1) next (map (printed names) ls))) (same_table tokens (pieces names l.symbols) w there)
      ∙ table_at (n + 1) next ls (ap later e) h.1

module _ (names : List (List ℕ)) (P : ℕ → Place) (table : IsTable names P) where
  pub lines_read : (ls : List TextLine) → LinesAreSayable (length names) ls → ReadsAs (lines_text names ls) names P 1 ls
  unfolding reading_of
  lines_read ls h =
      let printed_all = map (printed names) ls in
      let are = are_printed names P table ls h in
      let text = lines_text names ls in
      let e = rows_again 1 0 printed_all are in
      let w = lines_spelled printed_all are in
      record {
        faultless = ap (λ (r : List Line × Option (ℕ × LineFault)). r.1) e;
        rows = ap (λ (r : List Line × Option (ℕ × LineFault)). rows_of text names r.0) e ∙ rows_at names P table text 1 0 ls w h;
        table = ap (λ (r : List Line × Option (ℕ × LineFault)). with_names_of_all text names r.0) e ∙ table_at names P table text 1 0 ls w h;
      }
