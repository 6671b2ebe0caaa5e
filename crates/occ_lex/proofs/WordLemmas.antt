-- The tokens that are read from a printed text are spelled as they were printed.
use Rattle.std.proofs.Common.{◌≡◌, ℕ, ◌+◌, ◌-◌, ◌*◌, ◌<◌, List, [], ◌∷◌, ◌++◌, length, map, take, drop, replicate, refl, sym, ap, ◌∙◌, append_assoc, arith}
use Rattle.std.proofs.lemmas.List.{take_at, drop_at, drop-drop, length-replicate}
use Rattle.occ_lex.specs.declared.token.Token.{Token}
use Rattle.occ_lex.specs.declared.token.TokenKind.{TokenKind}
use Rattle.occ_lex.specs.Printed.{Piece, Printed, piece_text, pieces_text, printed_code, printed_line, printed_text, IsPiece, ArePieces, IsPrinted, ArePrinted, piece_tokens, line_printed, printed_lines}
use Rattle.occ_lex.specs.Token.{text_of}
use Rattle.occ_lex.specs.Tokens.{token_at}
use Rattle.occ_lex.specs.Words.{words_of, printed_words}
use Rattle.occ_lex.proofs.TokenLemmas.{token_some}

abbrev token_word : List ℕ → Token → TokenKind × List ℕ
token_word text token = (token.kind, text_of token text)

abbrev piece_word : Piece → TokenKind × List ℕ
piece_word piece = (piece.kind, piece.text)

after_front : (text front rest : List ℕ) (place n : ℕ) → drop place text ≡ front ++ rest → length front ≡ n → drop (place + n) text ≡ rest
after_front text front rest place n at len = sym (drop-drop n place text) ∙ ap (drop n) at ∙ drop_at front rest n len

text_at : (text front rest : List ℕ) (place : ℕ) → drop place text ≡ front ++ rest → 0 < length front → take (place + (length front - 1) + 1 - place) (drop place text) ≡ front
text_at text front rest place at some =
    let same : place + (length front - 1) + 1 - place ≡ length front = omega (arith, some) in
    ap (λ n. take n (drop place text)) same ∙ ap (take (length front)) at ∙ take_at front rest (length front) refl

piece_spelled : (text after : List ℕ) (place : ℕ) (piece : Piece) (rest : List ℕ) → IsPiece piece rest → drop place text ≡ piece_text piece ++ after → token_word text (token_at (place + piece.gap) (piece.kind, length piece.text)) ≡ piece_word piece
piece_spelled text after place piece rest is at =
    let behind : drop (place + piece.gap) text ≡ piece.text ++ after = after_front text (replicate piece.gap 32) (piece.text ++ after) place piece.gap (at ∙ append_assoc (replicate piece.gap 32) piece.text after) (length-replicate {A = ℕ} piece.gap 32) in
    ap (λ (t : List ℕ). (piece.kind, t)) (text_at text piece.text after (place + piece.gap) behind (token_some piece.text piece.kind is.token))

pub pieces_spelled : (text after : List ℕ) (place : ℕ) (pieces : List Piece) → ArePieces pieces → drop place text ≡ pieces_text pieces ++ after → map (token_word text) (piece_tokens place pieces) ≡ map piece_word pieces
pieces_spelled text after place [] are at = refl
pieces_spelled text after place (piece ∷ pieces) are at =
    let split : drop place text ≡ piece_text piece ++ (pieces_text pieces ++ after) = at ∙ append_assoc (piece_text piece) (pieces_text pieces) after in
    ap (λ (word : TokenKind × List ℕ). word ∷ map (token_word text) (piece_tokens (place + length (piece_text piece)) pieces)) (piece_spelled text (pieces_text pieces ++ after) place piece (pieces_text pieces) are.0 split)
    ∙ ap (λ (words : List (TokenKind × List ℕ)). piece_word piece ∷ words) (pieces_spelled text after (place + length (piece_text piece)) pieces are.1 (after_front text (piece_text piece) (pieces_text pieces ++ after) place (length (piece_text piece)) split refl))

pub line_spelled : (text after : List ℕ) (number place : ℕ) (line : Printed) → IsPrinted line → drop place text ≡ printed_line line ++ after → words_of text (line_printed number place line) ≡ printed_words line
line_spelled text after number place line is at =
    let spaces : List ℕ = replicate (2 * line.level) 32 in
    let split : drop place text ≡ spaces ++ (pieces_text line.pieces ++ (10 ∷ after)) =
    at ∙ append_assoc (printed_code line) (10 ∷ []) after ∙ append_assoc spaces (pieces_text line.pieces) (10 ∷ after) in
    pieces_spelled text (10 ∷ after) (place + 2 * line.level) line.pieces is.1 (after_front text spaces (pieces_text line.pieces ++ (10 ∷ after)) place (2 * line.level) split (length-replicate {A = ℕ} (2 * line.level) 32))

lines_spelled_from : (text : List ℕ) (number place : ℕ) (lines : List Printed) → ArePrinted lines → drop place text ≡ printed_text lines → map (words_of text) (printed_lines number place lines) ≡ map printed_words lines
lines_spelled_from text number place [] are at = refl
lines_spelled_from text number place (line ∷ lines) are at =
    ap (λ (words : List (TokenKind × List ℕ)). words ∷ map (words_of text) (printed_lines (number + 1) (place + length (printed_line line)) lines)) (line_spelled text (printed_text lines) number place line are.0 at)
    ∙ ap (λ (others : List (List (TokenKind × List ℕ))). printed_words line ∷ others) (lines_spelled_from text (number + 1) (place + length (printed_line line)) lines are.1 (after_front text (printed_line line) (printed_text lines) place (length (printed_line line)) at refl))

pub lines_spelled : (lines : List Printed) → ArePrinted lines → map (words_of (printed_text lines)) (printed_lines 1 0 lines) ≡ map printed_words lines
lines_spelled lines are = lines_spelled_from (printed_text lines) 1 0 lines are refl
