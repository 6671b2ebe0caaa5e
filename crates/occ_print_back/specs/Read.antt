-- The symbols of a printed line as they are read: an element of an array is the name of its array and an index.
use Rattle.std.specs.Prelude.{ℕ, ◌≡◌, ◌+◌, List, [], ◌∷◌, None}
use Rattle.std.specs.List.{flat_map}
use Rattle.occ_print.specs.occ_lex.Rows.{reading_of}
use Rattle.occ_print.specs.occ_lex.Symbols.{rows_of, with_names_of_all}
use Rattle.occ_print.specs.occ_lex.declared.symbol.Row.{Row}
use Rattle.occ_print.specs.Lines.{TextLine}
use Rattle.occ_print.specs.occ_lex.declared.symbol.Symbol.{Symbol}
use Rattle.occ_print.specs.occ_lex.declared.symbol.Symbol.TheVariants as symbol
use Rattle.occ_print.specs.occ_parse_forms.Written.{item_words}
use Rattle.occ_parse.specs.occ_parse_rules.Places.{Place}
use Rattle.occ_print_back.specs.Said.{item_of}

abbrev pub symbol_read : (ℕ → Place) → Symbol → List Symbol
symbol_read P (symbol.Name name) = item_words (item_of (P name.0))
symbol_read P (symbol.Numeral value) = symbol.Numeral value ∷ []
symbol_read P (symbol.Keyword k) = symbol.Keyword k ∷ []
symbol_read P (symbol.Sign s) = symbol.Sign s ∷ []

abbrev pub symbols_read : (ℕ → Place) → List Symbol → List Symbol
symbols_read P symbols = flat_map (symbol_read P) symbols

-- the rows of printed lines, the first of which has this number
abbrev pub line_rows : (ℕ → Place) → ℕ → List TextLine → List Row
line_rows P n [] = []
line_rows P n (l ∷ ls) = record { number = n; level = l.level; symbols = symbols_read P l.symbols } ∷ line_rows P (n + 1) ls

-- The text reads as these lines, the first of which has that number, without a fault of tokens, and leaves the table of names as it is.
pub record ReadsAs (text : List ℕ) (names : List (List ℕ)) (P : ℕ → Place) (number : ℕ) (lines : List TextLine) : Type 0 where
  pub faultless : (reading_of text).1 ≡ None
  pub rows : rows_of text names (reading_of text).0 ≡ line_rows P number lines
  pub table : with_names_of_all text names (reading_of text).0 ≡ names
