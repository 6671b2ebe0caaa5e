-- The texts of names: what a printed name is read as.
use Rattle.std.specs.Prelude.{ℕ, ◌≡◌, ◌<◌, nat_le, true, List, [], ◌∷◌, ◌++◌, length, map, Option, None, Some, IfSome, decimal}
use Rattle.std.specs.List.{AllByRecursion}
use Rattle.occ_print.specs.occ_base.Names.{IsDistinct}
use Rattle.occ_print.specs.occ_syntax.Types.{is_width}
use Rattle.occ_print.specs.occ_lex.declared.token.TokenKind.TheVariants as token
use Rattle.occ_print.specs.occ_lex.Spelling.{kind_of}
use Rattle.occ_print.specs.occ_lex.Printed.{Piece}
use Rattle.occ_print.specs.occ_lex.declared.symbol.Keyword.{Keyword}
use Rattle.occ_print.specs.occ_lex.declared.symbol.Keyword.TheVariants as word
use Rattle.occ_print.specs.occ_lex.declared.symbol.Symbol.{Symbol}
use Rattle.occ_print.specs.occ_lex.declared.symbol.Symbol.TheVariants as symbol
use Rattle.occ_print.specs.occ_lex.Symbols.{symbol_of}
use Rattle.occ_parse.specs.occ_parse_rules.Places.{Place}
use Rattle.occ_print.specs.Spelled.{name_text}
use Rattle.occ_print.specs.Lines.{TextLine}

-- the text of a place, where that of its name is given: the index of an element stands in brackets
abbrev pub place_text : List ℕ → Option ℕ → List ℕ
place_text base None = base
place_text base (Some k) = base ++ 91 ∷ (decimal k ++ 93 ∷ [])

-- The text of a number is that of its place: a name of the table, and for an element a numeral in brackets.
pub record IsPlace (names : List (List ℕ)) (p : Place) (text : List ℕ) : Type 0 where
  pub there : p.name < length names
  pub kind : kind_of (name_text names p.name) ≡ Some token.Name
  pub short : nat_le (length (name_text names p.name)) 32 ≡ true
  pub index : IfSome p.element (λ k. k < 256)
  pub text_is : text ≡ place_text (name_text names p.name) p.element

-- a table in which each text stands once, and each is the text of a place
pub record IsTable (names : List (List ℕ)) (P : ℕ → Place) : Type 0 where
  pub distinct : IsDistinct names
  pub places : (x : ℕ) → x < length names → IsPlace names (P x) (name_text names x)

-- the widths of the language are words of it
abbrev pub IsWord : Keyword → Type 0
IsWord (word.Width w) = is_width w ≡ true
IsWord other = Unit {0}

-- a symbol that can be printed and read back
abbrev pub IsSayable : ℕ → Symbol → Type 0
IsSayable count (symbol.Name name) = name.0 < count
IsSayable count (symbol.Numeral value) = value < 256
IsSayable count (symbol.Keyword k) = IsWord k
IsSayable count (symbol.Sign s) = Unit {0}

abbrev pub AreSayable : ℕ → List Symbol → Type 0
AreSayable count symbols = AllByRecursion (IsSayable count) symbols

-- the symbols of printed tokens, where all names are in the table
abbrev pub piece_symbols : List (List ℕ) → List Piece → List Symbol
piece_symbols names pieces = map (λ (p : Piece). symbol_of names p.kind p.text) pieces

-- a line has a symbol at least
abbrev pub IsBegun : List Symbol → Type 0
IsBegun [] = ⊥
IsBegun (s ∷ symbols) = Unit {0}

abbrev pub LinesAreSayable : ℕ → List TextLine → Type 0
LinesAreSayable count lines = AllByRecursion (λ (l : TextLine). IsBegun l.symbols × AreSayable count l.symbols) lines
