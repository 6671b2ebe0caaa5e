-- The rows of a text with two tables: the same ones under other numbers of names.
use Rattle.std.proofs.Common.{◌≡◌, ℕ, List, [], ◌∷◌, map, Some, slice_get, refl, ap, ap₂}
use Rattle.occ_nform.specs.occ_base.Names.{IsDistinct, place_of, with_text}
use Rattle.occ_nform.proofs.from_base.Naming.{naming}
use Rattle.occ_renamed.specs.occ_lex.declared.token.Line.{Line}
use Rattle.occ_renamed.specs.occ_lex.declared.token.Token.{Token}
use Rattle.occ_renamed.specs.occ_lex.declared.token.TokenKind.{TokenKind}
use Rattle.occ_renamed.specs.occ_lex.declared.token.TokenKind.TheVariants as kind
use Rattle.occ_renamed.specs.occ_lex.Token.{text_of}
use Rattle.occ_renamed.specs.occ_lex.declared.symbol.Symbol.TheVariants as symbol
use Rattle.occ_renamed.specs.occ_lex.declared.symbol.Row.{Row}
use Rattle.occ_renamed.specs.occ_lex.Symbols.{Extends, names_with, rows_of, symbol_of, symbols_of, with_names, with_names_of_all}
use Rattle.occ_renamed.proofs.from_lex.Interned.{extends_all, extends_names, extends_trans}
use Rattle.occ_renamed.proofs.from_parse.Texts.{stays}
use Rattle.occ_renamed.specs.Renamed.{symbol_renamed, symbols_renamed}
use Rattle.occ_read_renamed.specs.Readings.{StandIn}
use Rattle.occ_read_renamed.proofs.Numbers.{Table, stand_with}

abbrev pub row_renamed : (ℕ → ℕ) → Row → Row
row_renamed f row = record { number = row.number; level = row.level; symbols = symbols_renamed f row.symbols }

abbrev pub rows_renamed : (ℕ → ℕ) → List Row → List Row
rows_renamed f rows = map (row_renamed f) rows

-- ---- the texts of the one table stand in the other, all the way

token_stands : (old other : Table) (k : TokenKind) (t : List ℕ) → StandIn old other → StandIn (names_with old k t) (names_with other k t)
token_stands old other kind.Name t s = stand_with old other t s
token_stands old other kind.Numeral t s = s
token_stands old other kind.Word t s = s
token_stands old other kind.Sign t s = s

tokens_stand : (text : List ℕ) (old other : Table) (tokens : List Token) → StandIn old other → StandIn (with_names text old tokens) (with_names text other tokens)
tokens_stand text old other [] s = s
tokens_stand text old other (token ∷ tokens) s =
    let t = text_of token text in
    tokens_stand text (names_with old token.kind t) (names_with other token.kind t) tokens (token_stands old other token.kind t s)

pub lines_stand : (text : List ℕ) (old other : Table) (lines : List Line) → StandIn old other
    → StandIn (with_names_of_all text old lines) (with_names_of_all text other lines)
lines_stand text old other [] s = s
lines_stand text old other (line ∷ lines) s =
    lines_stand text (with_names text old line.tokens) (with_names text other line.tokens) lines (tokens_stand text old other line.tokens s)

-- ---- and no text stands twice

token_distinct : (old : Table) (k : TokenKind) (t : List ℕ) → IsDistinct old → IsDistinct (names_with old k t)
token_distinct old kind.Name t d = (naming old t).distinct d
token_distinct old kind.Numeral t d = d
token_distinct old kind.Word t d = d
token_distinct old kind.Sign t d = d

tokens_distinct : (text : List ℕ) (old : Table) (tokens : List Token) → IsDistinct old → IsDistinct (with_names text old tokens)
tokens_distinct text old [] d = d
tokens_distinct text old (token ∷ tokens) d =
    let t = text_of token text in tokens_distinct text (names_with old token.kind t) tokens (token_distinct old token.kind t d)

pub lines_distinct : (text : List ℕ) (old : Table) (lines : List Line) → IsDistinct old → IsDistinct (with_names_of_all text old lines)
lines_distinct text old [] d = d
lines_distinct text old (line ∷ lines) d = lines_distinct text (with_names text old line.tokens) lines (tokens_distinct text old line.tokens d)

-- ---- numbers of names, by the tables that are reached

module _ (f : ℕ → ℕ) (names others : Table) (d : IsDistinct others)
    (texts : (i : ℕ) (t : List ℕ) → slice_get names i ≡ Some t → slice_get others (f i) ≡ Some t) where
  name_so : (old other : Table) (t : List ℕ) → Extends (with_text old t) names → Extends (with_text other t) others → place_of other t ≡ f (place_of old t)
  name_so old other t e k =
      let first : slice_get names (place_of old t) ≡ Some t = stays (with_text old t) names (place_of old t) t e (naming old t).there in
      let second : slice_get others (place_of other t) ≡ Some t = stays (with_text other t) others (place_of other t) t k (naming other t).there in
      d (place_of other t) (f (place_of old t)) t second (texts (place_of old t) t first)

  token_so : (old other : Table) (k : TokenKind) (t : List ℕ) → Extends (names_with old k t) names → Extends (names_with other k t) others
      → symbol_of other k t ≡ symbol_renamed f (symbol_of old k t)
  token_so old other kind.Name t e k = ap (λ n. symbol.Name (record { 0 = n })) (name_so old other t e k)
  token_so old other kind.Numeral t e k = refl
  token_so old other kind.Word t e k = refl
  token_so old other kind.Sign t e k = refl

  tokens_so : (text : List ℕ) (old other : Table) (tokens : List Token) → Extends (with_names text old tokens) names → Extends (with_names text other tokens) others
      → symbols_of text other tokens ≡ symbols_renamed f (symbols_of text old tokens)
  tokens_so text old other [] e k = refl
  tokens_so text old other (token ∷ tokens) e k =
      let t = text_of token text in
      let next = names_with old token.kind t in
      let next' = names_with other token.kind t in
      ap₂ ◌∷◌
      (token_so old other token.kind t (extends_trans next (with_names text next tokens) names (extends_names text next tokens) e)
      (extends_trans next' (with_names text next' tokens) others (extends_names text next' tokens) k))
      (tokens_so text next next' tokens e k)

  pub rows_so : (text : List ℕ) (old other : Table) (lines : List Line) → Extends (with_names_of_all text old lines) names
      → Extends (with_names_of_all text other lines) others → rows_of text other lines ≡ rows_renamed f (rows_of text old lines)
  rows_so text old other [] e k = refl
  rows_so text old other (line ∷ lines) e k =
      let next = with_names text old line.tokens in
      let next' = with_names text other line.tokens in
      let first = tokens_so text old other line.tokens (extends_trans next (with_names_of_all text next lines) names (extends_all text next lines) e)
      (extends_trans next' (with_names_of_all text next' lines) others (extends_all text next' lines) k) in
      let later = rows_so text next next' lines e k in
      λ i. record { number = line.number; level = line.level; symbols = first i } ∷ later i
