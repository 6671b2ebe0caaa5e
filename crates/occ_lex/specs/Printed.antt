use Rattle.std.specs.Prelude.{ℕ, ◌≡◌, ◌+◌, ◌*◌, Bool, false, IsTrue, List, [], ◌∷◌, ◌++◌, length, replicate, Some, is_ok}
use Rattle.std.specs.List.{flat_map}
use Rattle.occ_lex.specs.declared.token.Line.{Line}
use Rattle.occ_lex.specs.declared.token.Token.{Token}
use Rattle.occ_lex.specs.declared.token.TokenKind.{TokenKind}
use Rattle.occ_lex.specs.declared.token.TokenKind.TheVariants as kind
use Rattle.occ_lex.specs.Spelling.{is_digit, is_name_byte, is_sign, kind_of}
use Rattle.occ_lex.specs.Tokens.{judged, token_at}

-- a token to be printed: how many spaces stand in front of it, its kind and its bytes
pub record Piece : Type 0 where
  pub gap : ℕ
  pub kind : TokenKind
  pub text : List ℕ

-- a line to be printed
pub record Printed : Type 0 where
  pub level : ℕ
  pub pieces : List Piece

abbrev pub piece_text : Piece → List ℕ
piece_text piece = replicate piece.gap 32 ++ piece.text

abbrev pub pieces_text : List Piece → List ℕ
pieces_text [] = []
pieces_text (piece ∷ pieces) = piece_text piece ++ pieces_text pieces

-- the line's own bytes, and with its line feed
abbrev pub printed_code : Printed → List ℕ
printed_code line = replicate (2 * line.level) 32 ++ pieces_text line.pieces

abbrev pub printed_line : Printed → List ℕ
printed_line line = printed_code line ++ 10 ∷ []

abbrev pub printed_text : List Printed → List ℕ
printed_text lines = flat_map printed_line lines

-- whether a test holds of the first byte
abbrev pub begins : (ℕ → Bool) → List ℕ → Bool
begins test [] = false
begins test (byte ∷ bytes) = test byte

-- whether a sign would go on with the byte behind it
abbrev pub sign_goes_on : List ℕ → List ℕ → Bool
sign_goes_on text [] = false
sign_goes_on text (byte ∷ bytes) = is_sign (text ++ byte ∷ [])

-- whether a token would go on with the bytes behind it
abbrev pub goes_on : TokenKind → List ℕ → List ℕ → Bool
goes_on kind.Name text rest = begins is_name_byte rest
goes_on kind.Word text rest = begins is_name_byte rest
goes_on kind.Numeral text rest = begins is_digit rest
goes_on kind.Sign text rest = sign_goes_on text rest

-- A token that can be printed in front of these bytes: it is one of its kind, it has no fault, and it ends there.
pub record IsPiece (piece : Piece) (rest : List ℕ) : Type 0 where
  pub token : kind_of piece.text ≡ Some piece.kind
  pub good : IsTrue (is_ok (judged (Some piece.kind) piece.text))
  pub ends : goes_on piece.kind piece.text rest ≡ false

abbrev pub ArePieces : List Piece → Type 0
ArePieces [] = Unit {0}
ArePieces (piece ∷ pieces) = IsPiece piece (pieces_text pieces) × ArePieces pieces

-- no space stands in front of the first of the pieces, of which there is one
abbrev pub BeginsAtOnce : List Piece → Type 0
BeginsAtOnce [] = ⊥
BeginsAtOnce (piece ∷ pieces) = piece.gap ≡ 0

abbrev pub IsPrinted : Printed → Type 0
IsPrinted line = BeginsAtOnce line.pieces × ArePieces line.pieces

abbrev pub ArePrinted : List Printed → Type 0
ArePrinted [] = Unit {0}
ArePrinted (line ∷ lines) = IsPrinted line × ArePrinted lines

-- the tokens of pieces whose text begins at a place
abbrev pub piece_tokens : ℕ → List Piece → List Token
piece_tokens place [] = []
piece_tokens place (piece ∷ pieces) = token_at (place + piece.gap) (piece.kind, length piece.text) ∷ piece_tokens (place + length (piece_text piece)) pieces

-- the line that is read where one is printed with this number and at this place
abbrev pub line_printed : ℕ → ℕ → Printed → Line
line_printed number place line = record { number = number; level = line.level; tokens = piece_tokens (place + 2 * line.level) line.pieces }

abbrev pub printed_lines : ℕ → ℕ → List Printed → List Line
printed_lines number place [] = []
printed_lines number place (line ∷ lines) = line_printed number place line ∷ printed_lines (number + 1) (place + length (printed_line line)) lines
