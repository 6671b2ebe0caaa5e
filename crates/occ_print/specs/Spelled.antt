-- How lines are spelled: the text of each symbol, and the space between two symbols.
use Rattle.std.specs.Prelude.{ℕ, ◌-◌, Bool, true, false, ◌&&◌, ◌||◌, if◌then◌else◌, List, [], ◌∷◌, ◌++◌, length, map, take, drop, Option, None, Some, codes, decimal, slice_get, unwrap_or}
use Rattle.std.specs.List.{prefix_len}
use Rattle.occ_syntax.specs.occ_base.declared.names.Name.{Name}
use Rattle.occ_syntax.specs.occ_base.declared.width.Width.TheVariants as width
use Rattle.occ_syntax.specs.declared.scope.Kind.{Kind}
use Rattle.occ_syntax.specs.Tree.{Tree}
use Rattle.occ_parse_forms.specs.occ_lex.declared.token.TokenKind.{TokenKind}
use Rattle.occ_parse_forms.specs.occ_lex.declared.token.TokenKind.TheVariants as token
use Rattle.occ_parse_forms.specs.occ_lex.Printed.{Piece, Printed, printed_text}
use Rattle.occ_parse_forms.specs.occ_lex.Spelling.{is_name_byte}
use Rattle.occ_parse_forms.specs.occ_lex.declared.symbol.Keyword.{Keyword}
use Rattle.occ_parse_forms.specs.occ_lex.declared.symbol.Keyword.TheVariants as word
use Rattle.occ_parse_forms.specs.occ_lex.declared.symbol.Sign.{Sign}
use Rattle.occ_parse_forms.specs.occ_lex.declared.symbol.Sign.TheVariants as sign
use Rattle.occ_parse_forms.specs.occ_lex.declared.symbol.Symbol.{Symbol}
use Rattle.occ_parse_forms.specs.occ_lex.declared.symbol.Symbol.TheVariants as symbol
use Rattle.occ_print.specs.Lines.{TextLine, part_lines, program_lines}

-- ---- the text of a symbol

-- a reserved word, without the number of a width
abbrev pub word_text : Keyword → List ℕ
word_text word.Skip = codes "SKIP"
word_text word.Stop = codes "STOP"
word_text word.Seq = codes "SEQ"
word_text word.Par = codes "PAR"
word_text word.Alt = codes "ALT"
word_text word.If = codes "IF"
word_text word.For = codes "FOR"
word_text word.Proc = codes "PROC"
word_text word.Chan = codes "CHAN"
word_text word.Of = codes "OF"
word_text word.True = codes "TRUE"
word_text word.False = codes "FALSE"
word_text word.And = codes "AND"
word_text word.Or = codes "OR"
word_text word.Not = codes "NOT"
word_text word.Plus = codes "PLUS"
word_text word.Minus = codes "MINUS"
word_text (word.Width width.Bool) = codes "BOOL"
word_text (word.Width (width.Word bits)) = codes "WORD"

-- the number behind a word that has one: WORD and its bits
abbrev pub number_text : Keyword → List ℕ
number_text (word.Width (width.Word bits)) = decimal bits
number_text other = []

abbrev pub keyword_text : Keyword → List ℕ
keyword_text k = word_text k ++ number_text k

-- 47 is a slash, 92 a backslash
abbrev pub sign_text : Sign → List ℕ
sign_text sign.Becomes = codes ":="
sign_text sign.AtMost = codes "<="
sign_text sign.AtLeast = codes ">="
sign_text sign.Differ = codes "<>"
sign_text sign.BitXor = codes "><"
sign_text sign.BitAnd = 47 ∷ 92 ∷ []
sign_text sign.BitOr = 92 ∷ 47 ∷ []
sign_text sign.Flip = codes "~"
sign_text sign.Ampersand = codes "&"
sign_text sign.Open = codes "("
sign_text sign.Close = codes ")"
sign_text sign.OpenIndex = codes "["
sign_text sign.CloseIndex = codes "]"
sign_text sign.Comma = codes ","
sign_text sign.Colon = codes ":"
sign_text sign.Query = codes "?"
sign_text sign.Bang = codes "!"
sign_text sign.Equal = codes "="
sign_text sign.Less = codes "<"
sign_text sign.Greater = codes ">"

-- the text of a name, by its number in the table
abbrev pub name_text : List (List ℕ) → ℕ → List ℕ
name_text names x = unwrap_or (slice_get names x) []

abbrev pub symbol_text : List (List ℕ) → Symbol → List ℕ
symbol_text names (symbol.Name name) = name_text names name.0
symbol_text names (symbol.Numeral value) = decimal value
symbol_text names (symbol.Keyword k) = keyword_text k
symbol_text names (symbol.Sign s) = sign_text s

-- ---- the space between two symbols

abbrev pub opens : Symbol → Bool
opens (symbol.Sign sign.Open) = true
opens other = false

-- `)`, `,` and `:` have no space in front
abbrev pub leans : Symbol → Bool
leans (symbol.Sign sign.Close) = true
leans (symbol.Sign sign.Comma) = true
leans (symbol.Sign sign.Colon) = true
leans other = false

-- the marks of a channel, `?` and `!`
abbrev pub is_mark : Symbol → Bool
is_mark (symbol.Sign sign.Query) = true
is_mark (symbol.Sign sign.Bang) = true
is_mark other = false

abbrev pub is_numeral : Symbol → Bool
is_numeral (symbol.Numeral value) = true
is_numeral other = false

-- Nothing stands behind `(`, before `)`, `,` and `:`, before the mark of a parameter, and between a numeral and its width.
abbrev pub is_tight : (header : Bool) → (before next : Symbol) → Bool
is_tight header before next = opens before || (leans next || ((header && is_mark next) || (is_numeral before && opens next)))

-- the spaces in front of a symbol, behind another or first on its line
abbrev pub gap : (header : Bool) → (before : Option Symbol) → (next : Symbol) → ℕ
gap header None next = 0
gap header (Some before) next = if is_tight header before next then 0 else 1

-- a header begins with PROC
abbrev pub is_header : List Symbol → Bool
is_header (symbol.Keyword word.Proc ∷ others) = true
is_header other = false

-- ---- symbols as tokens

abbrev pub piece : ℕ → TokenKind → List ℕ → Piece
piece gap kind text = record { gap = gap; kind = kind; text = text }

-- the tokens behind the name of an element: a bracket, a numeral and a bracket
abbrev pub index_pieces : List ℕ → List Piece
index_pieces [] = []
index_pieces (byte ∷ rest) = piece 0 token.Sign (byte ∷ []) ∷ piece 0 token.Numeral (take (length rest - 1) rest)
    ∷ piece 0 token.Sign (drop (length rest - 1) rest) ∷ []

-- A name is one token; the text of an element has the tokens of its index behind that of its array.
abbrev pub name_pieces : ℕ → List ℕ → List Piece
name_pieces gap text =
    piece gap token.Name (take (prefix_len is_name_byte text) text) ∷ index_pieces (drop (prefix_len is_name_byte text) text)

abbrev pub symbol_pieces : List (List ℕ) → ℕ → Symbol → List Piece
symbol_pieces names gap (symbol.Name name) = name_pieces gap (name_text names name.0)
symbol_pieces names gap (symbol.Numeral value) = piece gap token.Numeral (decimal value) ∷ []
symbol_pieces names gap (symbol.Keyword k) = piece gap token.Word (keyword_text k) ∷ []
symbol_pieces names gap (symbol.Sign s) = piece gap token.Sign (sign_text s) ∷ []

-- the tokens of symbols behind another, and of all symbols of a line
abbrev pub pieces_behind : List (List ℕ) → (header : Bool) → (before : Option Symbol) → List Symbol → List Piece
pieces_behind names header before [] = []
pieces_behind names header before (s ∷ symbols) = symbol_pieces names (gap header before s) s ++ pieces_behind names header (Some s) symbols

abbrev pub pieces : List (List ℕ) → List Symbol → List Piece
pieces names symbols = pieces_behind names (is_header symbols) None symbols

abbrev pub printed : List (List ℕ) → TextLine → Printed
printed names l = record { level = l.level; pieces = pieces names l.symbols }

-- ---- the text of lines

abbrev pub lines_text : List (List ℕ) → List TextLine → List ℕ
lines_text names lines = printed_text (map (printed names) lines)

-- the text of a part at a level
abbrev pub part_text : List (List ℕ) → ℕ → Tree → List ℕ
part_text names level part = lines_text names (part_lines level part)

-- the text of a program
abbrev pub program_text : List (List ℕ) → ℕ → List (Name × Kind) → Tree → List ℕ
program_text names name params body = lines_text names (program_lines name params body)
