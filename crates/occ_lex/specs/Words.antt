use Rattle.std.specs.Prelude.{ℕ, List, map}
use Rattle.occ_lex.specs.declared.token.Line.{Line}
use Rattle.occ_lex.specs.declared.token.TokenKind.{TokenKind}
use Rattle.occ_lex.specs.Printed.{Printed}
use Rattle.occ_lex.specs.Token.{text_of}

-- a line's tokens as what they are and how they are spelled, wherever they stand
abbrev pub words_of : List ℕ → Line → List (TokenKind × List ℕ)
words_of text line = map (λ token. (token.kind, text_of token text)) line.tokens

-- the same of a line to be printed
abbrev pub printed_words : Printed → List (TokenKind × List ℕ)
printed_words line = map (λ piece. (piece.kind, piece.text)) line.pieces
