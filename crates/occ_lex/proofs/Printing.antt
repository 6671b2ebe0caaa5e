-- A printed text reads back as the lines that were printed.
use Rattle.std.proofs.Common.{◌≡◌, ℕ, zero, suc, ◌+◌, ◌*◌, ◌/◌, ◌%◌, ◌<◌, ◌≤◌, Bool, true, false, cond, eqb, leb, ltb, not, ◌&&◌, ◌||◌, List, [], ◌∷◌, ◌++◌, length, take, replicate, Option, Some, None, Ok, Err, refl, sym, ap, subst, ◌∙◌, arith, append_assoc, ⊎_elim}
use Rattle.std.specs.Prelude.{is_some, is_ok, IsTrue}
use Rattle.std.specs.List.{list_all, list_any, prefix_len, starts_with}
use Rattle.std.proofs.lemmas.Bool.{and_parts, and_from, and_left, or_cases, or_parts, or_from, eqb-true, eqb-false, ne_eqb, ltb-true, lt-ltb, cases_lt, cond-true, cond-false, both_ways, not-true, not_from_false}
use Rattle.std.proofs.lemmas.List.{take_at, drop_at, length-append, length-replicate, length-take-le}
use Rattle.std.proofs.lemmas.List.Folds.{list_all-append}
use Rattle.occ_lex.specs.declared.fault.LineFault.{LineFault}
use Rattle.occ_lex.specs.declared.fault.LineFault.TheVariants as fault
use Rattle.occ_lex.specs.declared.token.Line.{Line}
use Rattle.occ_lex.specs.declared.token.TokenKind.{TokenKind}
use Rattle.occ_lex.specs.declared.token.TokenKind.TheVariants as kind
use Rattle.occ_lex.specs.Spelling.{is_letter, is_digit, is_name_byte, signs, is_reserved, is_sign, is_name, is_numeral, kind_of, value_of}
use Rattle.occ_lex.specs.Tokens.{◌>>=◌, longest, first_token, judged, token_at, tokens}
use Rattle.occ_lex.specs.Rows.{in_front, rows, ends_code, code_of, is_tab, is_space, line_of, then_reads, read_rows, reading_of, whole, lines_of}
use Rattle.occ_lex.specs.Printed.{Piece, Printed, piece_text, pieces_text, printed_code, printed_line, printed_text, begins, sign_goes_on, goes_on, IsPiece, ArePieces, BeginsAtOnce, IsPrinted, ArePrinted, piece_tokens, line_printed, printed_lines}
use Rattle.occ_lex.proofs.Classes.{kind_letter, kind_digit, kind_other, in_table, reserved_name, sign_first, no_long_sign, letter_above, digit_is}
use Rattle.occ_lex.proofs.Longest.{longest_is, run_longest}
use Rattle.occ_lex.proofs.TokenLemmas.{with_front, space_front, token_front, token_some}
use Rattle.occ_lex.proofs.RowLemmas.{rows_feed, rows_more, code_stop, code_go, line_even}

-- ---- what a token is spelled with

-- a byte above the space, and no minus
abbrev is_solid : ℕ → Bool
is_solid byte = ltb 32 byte && not (eqb byte 45)

solid : (byte : ℕ) → 32 < byte → (byte ≡ 45 → ⊥) → is_solid byte ≡ true
solid byte above other = and_from (ltb 32 byte) (not (eqb byte 45)) (lt-ltb 32 byte above) (not_from_false (eqb byte 45) (ne_eqb byte 45 other))

solid_is : (byte : ℕ) → is_solid byte ≡ true → (32 < byte) × (byte ≡ 45 → ⊥)
solid_is byte h =
    let parts = and_parts (ltb 32 byte) (not (eqb byte 45)) h in
    (ltb-true 32 byte parts.0, eqb-false byte 45 (not-true (eqb byte 45) parts.1))

name_byte_solid : (byte : ℕ) → is_name_byte byte ≡ true → is_solid byte ≡ true
name_byte_solid byte h = ⊎_elim
    (λ (l : is_letter byte ≡ true). let above = letter_above byte l in solid byte (omega (arith, above)) (λ e. omega (arith, above, e)))
    (λ (r : (is_digit byte || eqb byte 46) ≡ true). ⊎_elim
    (λ (d : is_digit byte ≡ true). let range = digit_is byte d in solid byte (omega (arith, range.0)) (λ e. omega (arith, range.0, e)))
    (λ (p : eqb byte 46 ≡ true). let dot = eqb-true byte 46 p in solid byte (omega (arith, dot)) (λ e. omega (arith, dot, e)))
    (or_cases (is_digit byte) (eqb byte 46) r))
    (or_cases (is_letter byte) (is_digit byte || eqb byte 46) h)

all_weaker : (p q : ℕ → Bool) → ((byte : ℕ) → p byte ≡ true → q byte ≡ true) → (bytes : List ℕ) → list_all p bytes ≡ true → list_all q bytes ≡ true
all_weaker p q weaker [] h = refl
all_weaker p q weaker (byte ∷ bytes) h =
    let parts = and_parts (p byte) (list_all p bytes) h in
    and_from (q byte) (list_all q bytes) (weaker byte parts.0) (all_weaker p q weaker bytes parts.1)

name_letter : (byte : ℕ) (rest : List ℕ) → is_name (byte ∷ rest) ≡ true → (is_letter byte ≡ true) × (list_all is_name_byte rest ≡ true)
unfolding is_name
name_letter byte rest h = and_parts (is_letter byte) (list_all is_name_byte rest) h

letter_solid : (byte : ℕ) → is_letter byte ≡ true → is_solid byte ≡ true
letter_solid byte l = let above = letter_above byte l in solid byte (omega (arith, above)) (λ e. omega (arith, above, e))

name_solid : (text : List ℕ) → is_name text ≡ true → list_all is_solid text ≡ true
name_solid [] h = refl
name_solid (byte ∷ rest) h =
    let parts = name_letter byte rest h in
    and_from (is_solid byte) (list_all is_solid rest) (letter_solid byte parts.0) (all_weaker is_name_byte is_solid name_byte_solid rest parts.1)

numeral_digits : (text : List ℕ) → is_numeral text ≡ true → list_all is_digit text ≡ true
unfolding is_numeral
numeral_digits [] h = refl
numeral_digits (byte ∷ rest) h = h

digit_solid : (byte : ℕ) → is_digit byte ≡ true → is_solid byte ≡ true
digit_solid byte d = let range = digit_is byte d in solid byte (omega (arith, range.0)) (λ e. omega (arith, range.0, e))

sign_solid : (text : List ℕ) → is_sign text ≡ true → list_all is_solid text ≡ true
unfolding is_sign
sign_solid text h = in_table (list_all is_solid) signs text refl h

-- what a kind says of a text
abbrev IsSpelled : TokenKind → List ℕ → Type 0
IsSpelled kind.Name text = is_name text ≡ true
IsSpelled kind.Word text = is_name text ≡ true
IsSpelled kind.Numeral text = is_numeral text ≡ true
IsSpelled kind.Sign text = is_sign text ≡ true

some_is : (k l : TokenKind) → Some k ≡ Some l → k ≡ l
some_is k l e = cc

spelled_by : (text : List ℕ) (k : TokenKind) (reserved named numeral sign : Bool) → (reserved ≡ true → is_name text ≡ true) → (named ≡ true → is_name text ≡ true) → (numeral ≡ true → is_numeral text ≡ true) → (sign ≡ true → is_sign text ≡ true)
    → cond reserved (Some kind.Word) (cond named (Some kind.Name) (cond numeral (Some kind.Numeral) (cond sign (Some kind.Sign) None))) ≡ Some k → IsSpelled k text
spelled_by text k true named numeral sign r n d s h = subst (λ l. IsSpelled l text) (some_is kind.Word k h) (r refl)
spelled_by text k false true numeral sign r n d s h = subst (λ l. IsSpelled l text) (some_is kind.Name k h) (n refl)
spelled_by text k false false true sign r n d s h = subst (λ l. IsSpelled l text) (some_is kind.Numeral k h) (d refl)
spelled_by text k false false false true r n d s h = subst (λ l. IsSpelled l text) (some_is kind.Sign k h) (s refl)
spelled_by text k false false false false r n d s h = absurd (apart k h)
  where
    apart : (l : TokenKind) → None ≡ Some l → ⊥
    apart l e = cc

pub spelled : (text : List ℕ) (k : TokenKind) → kind_of text ≡ Some k → IsSpelled k text
unfolding kind_of
spelled text k h = spelled_by text k (is_reserved text) (is_name text) (is_numeral text) (is_sign text) (reserved_name text) (λ e. e) (λ e. e) (λ e. e) h

spelled_solid : (k : TokenKind) (text : List ℕ) → IsSpelled k text → list_all is_solid text ≡ true
spelled_solid kind.Name text h = name_solid text h
spelled_solid kind.Word text h = name_solid text h
spelled_solid kind.Numeral text h = all_weaker is_digit is_solid digit_solid text (numeral_digits text h)
spelled_solid kind.Sign text h = sign_solid text h

-- ---- the longest token in front is the one that was printed

prefix_whole : (test : ℕ → Bool) (front rest : List ℕ) → list_all test front ≡ true → begins test rest ≡ false → prefix_len test (front ++ rest) ≡ length front
prefix_whole test [] [] all ends = refl
prefix_whole test [] (byte ∷ rest) all ends = cond-false (test byte) (1 + prefix_len test rest) 0 ends
prefix_whole test (byte ∷ front) rest all ends =
    let parts = and_parts (test byte) (list_all test front) all in
    cond-true (test byte) (1 + prefix_len test (front ++ rest)) 0 parts.0 ∙ ap (λ n. 1 + n) (prefix_whole test front rest parts.1 ends) ∙ omega arith

longest_run : (test : ℕ → Bool) (byte : ℕ) (front rest : List ℕ) → ((more : List ℕ) → is_some (kind_of (byte ∷ more)) ≡ list_all test more) → list_all test front ≡ true → begins test rest ≡ false
    → longest ((byte ∷ front) ++ rest) ≡ length (byte ∷ front)
longest_run test byte front rest decides all ends =
    longest_is (byte ∷ (front ++ rest)) (suc (prefix_len test (front ++ rest))) (run_longest test byte (front ++ rest) decides) ∙ ap suc (prefix_whole test front rest all ends)

numeral_first : (byte : ℕ) (rest : List ℕ) → is_numeral (byte ∷ rest) ≡ true → (is_digit byte ≡ true) × (list_all is_digit rest ≡ true)
unfolding is_numeral
numeral_first byte rest h = and_parts (is_digit byte) (list_all is_digit rest) h

two_bytes : (byte : ℕ) (front rest : List ℕ) (m : ℕ) → length (byte ∷ front) < m → m ≤ 2 → m ≤ length ((byte ∷ front) ++ rest) → sign_goes_on (byte ∷ front) rest ≡ false → is_sign (take m ((byte ∷ front) ++ rest)) ≡ false
two_bytes byte [] [] m longer short within ends = absurd (omega (arith, longer, within))
two_bytes byte [] (next ∷ rest) m longer short within ends =
    let two : m ≡ 2 = omega (arith, longer, short) in
    ap (λ n. is_sign (take n (byte ∷ next ∷ rest))) two ∙ ends
two_bytes byte (next ∷ front) rest m longer short within ends = absurd (omega (arith, longer, short))

some_front : (byte : ℕ) (bytes : List ℕ) (m : ℕ) → 0 < m → is_letter byte ≡ false → is_digit byte ≡ false → is_some (kind_of (take m (byte ∷ bytes))) ≡ is_sign (take m (byte ∷ bytes))
some_front byte bytes zero some l d = absurd (omega (arith, some))
some_front byte bytes (suc m) some l d = kind_other byte (take m bytes) l d

longest_sign_whole : (byte : ℕ) (front rest : List ℕ) → is_sign (byte ∷ front) ≡ true → sign_goes_on (byte ∷ front) rest ≡ false → longest ((byte ∷ front) ++ rest) ≡ length (byte ∷ front)
longest_sign_whole byte front rest sign ends =
    let first = sign_first byte front sign in
    let parts = or_parts (is_letter byte) (is_digit byte || eqb byte 46) first in
    let no_digit = (or_parts (is_digit byte) (eqb byte 46) parts.1).0 in
    longest_is ((byte ∷ front) ++ rest) (length (byte ∷ front)) (record {
      within = omega (arith, length-append (byte ∷ front) rest);
      token = λ some. some_front byte (front ++ rest) (length (byte ∷ front)) some parts.0 no_digit ∙ ap is_sign (take_at (byte ∷ front) rest (length (byte ∷ front)) refl) ∙ sign;
      none_longer = λ m longer within. some_front byte (front ++ rest) m (omega (arith, longer)) parts.0 no_digit ∙ ⊎_elim
          (λ (long : 2 < m). no_long_sign (take m ((byte ∷ front) ++ rest)) (omega (arith, long, length-take-le m ((byte ∷ front) ++ rest) within)))
          (λ (short : m ≤ 2). two_bytes byte front rest m longer short within ends)
          (cases_lt 2 m);
    })

longest_whole : (k : TokenKind) (text rest : List ℕ) → 0 < length text → IsSpelled k text → goes_on k text rest ≡ false → longest (text ++ rest) ≡ length text
longest_whole k [] rest some is ends = absurd (omega (arith, some))
longest_whole kind.Name (byte ∷ front) rest some is ends =
    let parts = name_letter byte front is in
    longest_run is_name_byte byte front rest (λ more. kind_letter byte more parts.0) parts.1 ends
longest_whole kind.Word (byte ∷ front) rest some is ends =
    let parts = name_letter byte front is in
    longest_run is_name_byte byte front rest (λ more. kind_letter byte more parts.0) parts.1 ends
longest_whole kind.Numeral (byte ∷ front) rest some is ends =
    let parts = numeral_first byte front is in
    longest_run is_digit byte front rest (λ more. kind_digit byte more parts.0) parts.1 ends
longest_whole kind.Sign (byte ∷ front) rest some is ends = longest_sign_whole byte front rest is ends

ok_chosen : (b : Bool) (token : TokenKind × ℕ) (e : LineFault) → IsTrue (is_ok (cond b (Ok token) (Err e))) → cond b (Ok token) (Err e) ≡ Ok token
ok_chosen true token e h = refl
ok_chosen false token e h = absurd (both_ways true (sym h) refl)

judged_good : (k : TokenKind) (text : List ℕ) → IsTrue (is_ok (judged (Some k) text)) → judged (Some k) text ≡ Ok (k, length text)
judged_good kind.Name text h = ok_chosen (leb (length text) 32) (kind.Name, length text) fault.Name h
judged_good kind.Numeral text h = ok_chosen (leb (value_of text) 255) (kind.Numeral, length text) fault.Number h
judged_good kind.Sign text h = refl
judged_good kind.Word text h = refl

pub piece_first : (piece : Piece) (rest : List ℕ) → IsPiece piece rest → first_token (piece.text ++ rest) ≡ Ok (piece.kind, length piece.text)
unfolding first_token
piece_first piece rest is =
    let len : longest (piece.text ++ rest) ≡ length piece.text = longest_whole piece.kind piece.text rest (token_some piece.text piece.kind is.token) (spelled piece.text piece.kind is.token) is.ends in
    let front : take (longest (piece.text ++ rest)) (piece.text ++ rest) ≡ piece.text = ap (λ n. take n (piece.text ++ rest)) len ∙ take_at piece.text rest (length piece.text) refl in
    ap (λ t. judged (kind_of t) t) front ∙ ap (λ k. judged k piece.text) is.token ∙ judged_good piece.kind piece.text is.good

-- ---- the tokens of a printed line

spaces_front : (n place : ℕ) (bytes : List ℕ) → tokens place 0 (replicate n 32 ++ bytes) ≡ tokens (place + n) 0 bytes
spaces_front zero place bytes = ap (λ p. tokens p 0 bytes) (omega arith)
spaces_front (suc n) place bytes =
    space_front place 32 (replicate n 32 ++ bytes) refl ∙ spaces_front n (place + 1) bytes ∙ ap (λ p. tokens p 0 bytes) (omega arith)

text_front : (place : ℕ) (k : TokenKind) (text rest : List ℕ) → 0 < length text → list_all is_solid text ≡ true → first_token (text ++ rest) ≡ Ok (k, length text)
    → tokens place 0 (text ++ rest) ≡ with_front (token_at place (k, length text) ∷ []) (tokens (place + length text) 0 rest)
text_front place k [] rest some all first = absurd (omega (arith, some))
text_front place k (byte ∷ text) rest some all first =
    let parts = and_parts (is_solid byte) (list_all is_solid text) all in
    let is = solid_is byte parts.0 in
    token_front place byte (text ++ rest) k (length (byte ∷ text)) (λ e. omega (arith, is.0, e)) first some
    ∙ ap (λ bytes. with_front (token_at place (k, length (byte ∷ text)) ∷ []) (tokens (place + length (byte ∷ text)) 0 bytes)) (drop_at (byte ∷ text) rest (length (byte ∷ text)) refl)

pub pieces_again : (place : ℕ) (pieces : List Piece) → ArePieces pieces → tokens place 0 (pieces_text pieces) ≡ Ok (piece_tokens place pieces)
unfolding tokens
pieces_again place [] are = refl
pieces_again place (piece ∷ pieces) are =
    let rest = pieces_text pieces in
    let is : IsPiece piece rest = are.0 in
    let next : ℕ = place + length (piece_text piece) in
    let len : place + piece.gap + length piece.text ≡ next = omega (arith, length-append (replicate piece.gap 32) piece.text, length-replicate {A = ℕ} piece.gap 32) in
    ap (tokens place 0) (append_assoc (replicate piece.gap 32) piece.text rest)
    ∙ spaces_front piece.gap place (piece.text ++ rest)
    ∙ text_front (place + piece.gap) piece.kind piece.text rest (token_some piece.text piece.kind is.token) (spelled_solid piece.kind piece.text (spelled piece.text piece.kind is.token)) (piece_first piece rest is)
    ∙ ap (λ p. with_front (token_at (place + piece.gap) (piece.kind, length piece.text) ∷ []) (tokens p 0 rest)) len
    ∙ ap (with_front (token_at (place + piece.gap) (piece.kind, length piece.text) ∷ [])) (pieces_again next pieces are.1)

-- ---- the bytes of a printed line

-- no control byte, and no minus
abbrev is_plain : ℕ → Bool
is_plain byte = ltb 31 byte && not (eqb byte 45)

plain_is : (byte : ℕ) → is_plain byte ≡ true → (31 < byte) × (byte ≡ 45 → ⊥)
plain_is byte h =
    let parts = and_parts (ltb 31 byte) (not (eqb byte 45)) h in
    (ltb-true 31 byte parts.0, eqb-false byte 45 (not-true (eqb byte 45) parts.1))

solid_plain : (byte : ℕ) → is_solid byte ≡ true → is_plain byte ≡ true
solid_plain byte h =
    let is = solid_is byte h in
    and_from (ltb 31 byte) (not (eqb byte 45)) (lt-ltb 31 byte (omega (arith, is.0))) (not_from_false (eqb byte 45) (ne_eqb byte 45 is.1))

spaces_plain : (n : ℕ) → list_all is_plain (replicate n 32) ≡ true
spaces_plain zero = refl
spaces_plain (suc n) = spaces_plain n

all_append : (test : ℕ → Bool) (front rest : List ℕ) → list_all test front ≡ true → list_all test rest ≡ true → list_all test (front ++ rest) ≡ true
all_append test front rest f r = list_all-append test front rest ∙ and_from (list_all test front) (list_all test rest) f r

pieces_plain : (pieces : List Piece) → ArePieces pieces → list_all is_plain (pieces_text pieces) ≡ true
pieces_plain [] are = refl
pieces_plain (piece ∷ pieces) are =
    let is : IsPiece piece (pieces_text pieces) = are.0 in
    let text : list_all is_plain piece.text ≡ true = all_weaker is_solid is_plain solid_plain piece.text (spelled_solid piece.kind piece.text (spelled piece.text piece.kind is.token)) in
    all_append is_plain (piece_text piece) (pieces_text pieces) (all_append is_plain (replicate piece.gap 32) piece.text (spaces_plain piece.gap) text) (pieces_plain pieces are.1)

code_plain : (line : Printed) → ArePieces line.pieces → list_all is_plain (printed_code line) ≡ true
code_plain line are = all_append is_plain (replicate (2 * line.level) 32) (pieces_text line.pieces) (spaces_plain (2 * line.level)) (pieces_plain line.pieces are)

-- a plain line has one row, with its own bytes
pub plain_row : (front rest : List ℕ) → list_all is_plain front ≡ true → rows ((front ++ 10 ∷ []) ++ rest) ≡ (front ++ 10 ∷ []) ∷ rows rest
plain_row [] rest h = rows_feed 10 rest refl
plain_row (byte ∷ front) rest h =
    let parts = and_parts (is_plain byte) (list_all is_plain front) h in
    let is = plain_is byte parts.0 in
    rows_more byte ((front ++ 10 ∷ []) ++ rest) (λ e. omega (arith, is.0, e)) ∙ ap (in_front byte) (plain_row front rest parts.1)

starts_no : (first : ℕ) (needle : List ℕ) (byte : ℕ) (rest : List ℕ) → (first ≡ byte → ⊥) → starts_with eqb (byte ∷ rest) (first ∷ needle) ≡ false
starts_no first needle byte rest h = and_left (eqb first byte) _ (ne_eqb first byte h)

plain_goes : (byte : ℕ) (rest : List ℕ) → is_plain byte ≡ true → ends_code (byte ∷ rest) ≡ false
plain_goes byte rest h =
    let is = plain_is byte h in
    or_from _ _ (starts_no 45 (45 ∷ []) byte rest (λ e. is.1 (sym e)))
    (or_from _ _ (starts_no 10 [] byte rest (λ e. omega (arith, is.0, e))) (starts_no 13 (10 ∷ []) byte rest (λ e. omega (arith, is.0, e))))

pub plain_code : (front : List ℕ) → list_all is_plain front ≡ true → code_of (front ++ 10 ∷ []) ≡ front
plain_code [] h = code_stop (10 ∷ []) refl
plain_code (byte ∷ front) h =
    let parts = and_parts (is_plain byte) (list_all is_plain front) h in
    code_go byte (front ++ 10 ∷ []) (plain_goes byte (front ++ 10 ∷ []) parts.0) ∙ ap (λ bytes. byte ∷ bytes) (plain_code front parts.1)

plain_no_tab : (bytes : List ℕ) → list_all is_plain bytes ≡ true → list_any is_tab bytes ≡ false
plain_no_tab [] h = refl
plain_no_tab (byte ∷ bytes) h =
    let parts = and_parts (is_plain byte) (list_all is_plain bytes) h in
    let is = plain_is byte parts.0 in
    or_from (eqb byte 9) (list_any is_tab bytes) (ne_eqb byte 9 (λ e. omega (arith, is.0, e))) (plain_no_tab bytes parts.1)

-- leading spaces
indent_is : (n byte : ℕ) (rest : List ℕ) → (byte ≡ 32 → ⊥) → (prefix_len is_space (replicate n 32 ++ byte ∷ rest) ≡ n) × (list_all is_space (replicate n 32 ++ byte ∷ rest) ≡ false)
indent_is zero byte rest h = (cond-false (eqb byte 32) (1 + prefix_len is_space rest) 0 (ne_eqb byte 32 h), and_left (eqb byte 32) (list_all is_space rest) (ne_eqb byte 32 h))
indent_is (suc n) byte rest h =
    let more = indent_is n byte rest h in
    (ap (λ k. 1 + k) more.0 ∙ omega arith, more.1)

pieces_indent : (n : ℕ) (pieces : List Piece) → BeginsAtOnce pieces → ArePieces pieces → (prefix_len is_space (replicate n 32 ++ pieces_text pieces) ≡ n) × (list_all is_space (replicate n 32 ++ pieces_text pieces) ≡ false)
pieces_indent n [] at_once are = absurd at_once
pieces_indent n (piece ∷ pieces) at_once are =
    let is : IsPiece piece (pieces_text pieces) = are.0 in
    let no_gap : piece_text piece ≡ piece.text = ap (λ k. replicate k 32 ++ piece.text) at_once in
    subst (λ t. (prefix_len is_space (replicate n 32 ++ (t ++ pieces_text pieces)) ≡ n) × (list_all is_space (replicate n 32 ++ (t ++ pieces_text pieces)) ≡ false)) (sym no_gap)
    (first_byte piece.text (token_some piece.text piece.kind is.token) (spelled_solid piece.kind piece.text (spelled piece.text piece.kind is.token)))
  where
    first_byte : (text : List ℕ) → 0 < length text → list_all is_solid text ≡ true → (prefix_len is_space (replicate n 32 ++ (text ++ pieces_text pieces)) ≡ n) × (list_all is_space (replicate n 32 ++ (text ++ pieces_text pieces)) ≡ false)
    first_byte [] some all = absurd (omega (arith, some))
    first_byte (byte ∷ text) some all =
        let is = solid_is byte (and_parts (is_solid byte) (list_all is_solid text) all).0 in
        indent_is n byte (text ++ pieces_text pieces) (λ e. omega (arith, is.0, e))

-- ---- a printed line, and the printed text

level_half : (level : ℕ) → 2 * level / 2 ≡ level
level_half level = omega arith

level_even : (level : ℕ) → 2 * level % 2 ≡ 1 → ⊥
level_even level h = omega (arith, h)

pub line_again : (number place : ℕ) (line : Printed) → IsPrinted line → line_of number place (printed_line line) ≡ Ok (Some (line_printed number place line))
line_again number place line is =
    let code : code_of (printed_line line) ≡ printed_code line = plain_code (printed_code line) (code_plain line is.1) in
    let indent = pieces_indent (2 * line.level) line.pieces is.0 is.1 in
    let depth : prefix_len is_space (code_of (printed_line line)) ≡ 2 * line.level = ap (prefix_len is_space) code ∙ indent.0 in
    let found : tokens place 0 (code_of (printed_line line)) ≡ Ok (piece_tokens (place + 2 * line.level) line.pieces) = ap (tokens place 0) code ∙ spaces_front (2 * line.level) place (pieces_text line.pieces) ∙ pieces_again (place + 2 * line.level) line.pieces is.1 in
    line_even number place (printed_line line) (ap (list_any is_tab) code ∙ plain_no_tab (printed_code line) (code_plain line is.1)) (ap (list_all is_space) code ∙ indent.1) (λ odd. level_even line.level (ap (λ n. n % 2) (sym depth) ∙ odd))
    ∙ ap (λ read. read >>= λ there. Ok (Some (record { number = number; level = prefix_len is_space (code_of (printed_line line)) / 2; tokens = there }))) found
    ∙ ap (λ n. Ok (Some (record { number = number; level = n; tokens = piece_tokens (place + 2 * line.level) line.pieces }))) (ap (λ n. n / 2) depth ∙ level_half line.level)

pub rows_again : (number place : ℕ) (lines : List Printed) → ArePrinted lines → read_rows number place (rows (printed_text lines)) ≡ (printed_lines number place lines, None)
unfolding read_rows rows
rows_again number place [] are = refl
rows_again number place (line ∷ lines) are =
    let rest = printed_text lines in
    let is : IsPrinted line = are.0 in
    let later = read_rows (number + 1) (place + length (printed_line line)) (rows rest) in
    ap (read_rows number place) (plain_row (printed_code line) rest (code_plain line is.1))
    ∙ ap (λ read. then_reads read number later) (line_again number place line is)
    ∙ ap (λ (others : List Line × Option (ℕ × LineFault)). (line_printed number place line ∷ others.0, others.1)) (rows_again (number + 1) (place + length (printed_line line)) lines are.1)

pub text_again : (lines : List Printed) → ArePrinted lines → lines_of (printed_text lines) ≡ Ok (printed_lines 1 0 lines)
unfolding reading_of
text_again lines are = ap (λ (read : List Line × Option (ℕ × LineFault)). whole read.0 read.1) (rows_again 1 0 lines are)
