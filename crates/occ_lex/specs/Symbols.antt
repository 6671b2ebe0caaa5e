-- The symbols of a text's tokens. A name stands for its place in the table of names.
use Rattle.std.specs.Prelude.{ℕ, ◌≡◌, ◌<◌, List, [], ◌∷◌, ◌++◌, length, fold, unwrap_or}
use Rattle.std.specs.List.{AllByRecursion}
use Rattle.occ_base.specs.Names.{place_of, with_text}
use Rattle.occ_lex.specs.declared.token.Line.{Line}
use Rattle.occ_lex.specs.declared.token.Token.{Token}
use Rattle.occ_lex.specs.declared.token.TokenKind.{TokenKind}
use Rattle.occ_lex.specs.declared.token.TokenKind.TheVariants as kind
use Rattle.occ_lex.specs.Spelling.{value_of}
use Rattle.occ_lex.specs.Token.{text_of}
use Rattle.occ_lex.specs.declared.symbol.Keyword.TheVariants as word
use Rattle.occ_lex.specs.declared.symbol.Sign.TheVariants as sign
use Rattle.occ_lex.specs.declared.symbol.Row.{Row}
use Rattle.occ_lex.specs.declared.symbol.Symbol.{Symbol}
use Rattle.occ_lex.specs.declared.symbol.Symbol.TheVariants as symbol
use Rattle.occ_lex.specs.SymbolWords.{keyword_of, sign_of}

-- The symbol of a token of that kind and text, where these names are in the table. Each reserved word is a keyword and
-- each sign a sign, so the words behind unwrap_or stand for no token.
abbrev pub symbol_of : List (List ℕ) → TokenKind → List ℕ → Symbol
symbol_of names kind.Name text = symbol.Name (record { 0 = place_of names text })
symbol_of names kind.Numeral text = symbol.Numeral (value_of text)
symbol_of names kind.Word text = symbol.Keyword (unwrap_or (keyword_of text) word.Skip)
symbol_of names kind.Sign text = symbol.Sign (unwrap_or (sign_of text) sign.Becomes)

-- the table behind a token: a name is in it
abbrev pub names_with : List (List ℕ) → TokenKind → List ℕ → List (List ℕ)
names_with names kind.Name text = with_text names text
names_with names kind.Numeral text = names
names_with names kind.Word text = names
names_with names kind.Sign text = names

-- the table with the names of tokens, in order, and of the tokens of lines
abbrev pub with_names : List ℕ → List (List ℕ) → List Token → List (List ℕ)
with_names text names tokens = fold (λ known token. names_with known token.kind (text_of token text)) names tokens

abbrev pub with_names_of_all : List ℕ → List (List ℕ) → List Line → List (List ℕ)
with_names_of_all text names lines = fold (λ known line. with_names text known line.tokens) names lines

-- the symbols of tokens, where a new name takes the next place of the table
abbrev pub symbols_of : List ℕ → List (List ℕ) → List Token → List Symbol
symbols_of text names [] = []
symbols_of text names (token ∷ tokens) =
    symbol_of names token.kind (text_of token text) ∷ symbols_of text (names_with names token.kind (text_of token text)) tokens

-- the rows of lines: their numbers, levels and symbols
abbrev pub rows_of : List ℕ → List (List ℕ) → List Line → List Row
rows_of text names [] = []
rows_of text names (line ∷ lines) =
    record { number = line.number; level = line.level; symbols = symbols_of text names line.tokens } ∷ rows_of text (with_names text names line.tokens) lines

-- the longer table has the shorter one's names in their places, and maybe more
abbrev pub Extends : List (List ℕ) → List (List ℕ) → Type 0
Extends old new = (more : List (List ℕ)) × (new ≡ old ++ more)

-- a symbol's name, where it is one, is in the table
abbrev pub IsKnown : List (List ℕ) → Symbol → Type 0
IsKnown names (symbol.Name name) = name.0 < length names
IsKnown names (symbol.Numeral value) = Unit {0}
IsKnown names (symbol.Keyword word) = Unit {0}
IsKnown names (symbol.Sign sign) = Unit {0}

abbrev pub AreKnown : List (List ℕ) → List Row → Type 0
AreKnown names rows = AllByRecursion (λ row. AllByRecursion (IsKnown names) row.symbols) rows
