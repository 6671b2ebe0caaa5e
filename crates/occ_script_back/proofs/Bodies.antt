-- The rows of printed texts.
use Rattle.std.proofs.Common.{◌≡◌, ℕ, zero, suc, ◌-◌, ◌*◌, ◌<◌, ◌≤◌, Bool, true, false, eqb, ltb, not, ◌&&◌, ◌||◌, List, [], ◌∷◌, ◌++◌, map, replicate, Some, refl, ap, sym, ◌∙◌, arith, append_assoc, append-nil, ⊎_elim}
use Rattle.std.specs.List.{list_all}
use Rattle.std.proofs.lemmas.Bool.{and_parts, and_from, and_left, or_cases, or_from, eqb-true, lt-ltb, not_from_false, ne_eqb}
use Rattle.std.proofs.lemmas.List.Folds.{list_all-append}
use Rattle.occ_script_write.specs.occ_lex.declared.token.TokenKind.{TokenKind}
use Rattle.occ_script_write.specs.occ_lex.declared.token.TokenKind.TheVariants as kind
use Rattle.occ_script_write.specs.occ_lex.Printed.{Piece, Printed, printed_code, printed_line, printed_text, pieces_text, ArePieces, ArePrinted}
use Rattle.occ_script_write.specs.occ_lex.Rows.{rows}
use Rattle.occ_script_write.specs.occ_lex.Spelling.{is_digit, is_letter, is_name, is_name_byte, is_numeral, is_sign, kind_of, signs}
use Rattle.occ_script_write.proofs.from_lex.Classes.{digit_is, in_table, letter_above}
use Rattle.occ_script_write.proofs.from_lex.Printing.{plain_row, spelled}
use Rattle.occ_script_write.specs.occ_script_lines.declared.section.Format.TheVariants as format
use Rattle.occ_script_write.specs.occ_script_lines.Lines.{is_keyword}

-- ---- bytes of printed lines

-- no control byte, and no minus
abbrev is_flat : ℕ → Bool
is_flat b = ltb 31 b && not (eqb b 45)

flat : (b : ℕ) → 31 < b → (b ≡ 45 → ⊥) → is_flat b ≡ true
flat b h k = and_from (ltb 31 b) (not (eqb b 45)) (lt-ltb 31 b h) (not_from_false (eqb b 45) (ne_eqb b 45 k))

letter_flat : (b : ℕ) → is_letter b ≡ true → is_flat b ≡ true
letter_flat b h = flat b (omega (arith, letter_above b h)) (λ e. omega (arith, letter_above b h, e))

digit_flat : (b : ℕ) → is_digit b ≡ true → is_flat b ≡ true
digit_flat b h = flat b (omega (arith, (digit_is b h).0)) (λ e. omega (arith, (digit_is b h).0, e))

name_flat : (b : ℕ) → is_name_byte b ≡ true → is_flat b ≡ true
name_flat b h = ⊎_elim (letter_flat b)
    (λ (r : (is_digit b || eqb b 46) ≡ true). ⊎_elim (digit_flat b) (λ (p : eqb b 46 ≡ true). let e = eqb-true b 46 p in flat b (omega (arith, e)) (λ k. omega (arith, e, k))) (or_cases (is_digit b) (eqb b 46) r))
    (or_cases (is_letter b) (is_digit b || eqb b 46) h)

all_flat : (test : ℕ → Bool) → ((b : ℕ) → test b ≡ true → is_flat b ≡ true) → (text : List ℕ) → list_all test text ≡ true → list_all is_flat text ≡ true
all_flat test f [] h = refl
all_flat test f (b ∷ text) h = let parts = and_parts (test b) (list_all test text) h in and_from (is_flat b) (list_all is_flat text) (f b parts.0) (all_flat test f text parts.1)

word_flat : (text : List ℕ) → is_name text ≡ true → list_all is_flat text ≡ true
unfolding is_name
word_flat [] h = refl
word_flat (b ∷ text) h =
    let parts = and_parts (is_letter b) (list_all is_name_byte text) h in
    and_from (is_flat b) (list_all is_flat text) (letter_flat b parts.0) (all_flat is_name_byte name_flat text parts.1)

numeral_flat : (text : List ℕ) → is_numeral text ≡ true → list_all is_flat text ≡ true
unfolding is_numeral
numeral_flat [] h = refl
numeral_flat (b ∷ text) h = all_flat is_digit digit_flat (b ∷ text) h

sign_flat : (text : List ℕ) → is_sign text ≡ true → list_all is_flat text ≡ true
unfolding is_sign
sign_flat text h = in_table (list_all is_flat) signs text refl h

text_flat : (k : TokenKind) (text : List ℕ) → kind_of text ≡ Some k → list_all is_flat text ≡ true
text_flat kind.Name text h = word_flat text (spelled text kind.Name h)
text_flat kind.Word text h = word_flat text (spelled text kind.Word h)
text_flat kind.Numeral text h = numeral_flat text (spelled text kind.Numeral h)
text_flat kind.Sign text h = sign_flat text (spelled text kind.Sign h)

both_flat : (xs ys : List ℕ) → list_all is_flat xs ≡ true → list_all is_flat ys ≡ true → list_all is_flat (xs ++ ys) ≡ true
both_flat xs ys h k = list_all-append is_flat xs ys ∙ and_from (list_all is_flat xs) (list_all is_flat ys) h k

gap_flat : (n : ℕ) → list_all is_flat (replicate n 32) ≡ true
gap_flat zero = refl
gap_flat (suc n) = gap_flat n

pieces_flat : (ps : List Piece) → ArePieces ps → list_all is_flat (pieces_text ps) ≡ true
pieces_flat [] h = refl
pieces_flat (p ∷ ps) h =
    both_flat (replicate p.gap 32 ++ p.text) (pieces_text ps) (both_flat (replicate p.gap 32) p.text (gap_flat p.gap) (text_flat p.kind p.text h.0.token)) (pieces_flat ps h.1)

code_flat : (l : Printed) → ArePieces l.pieces → list_all is_flat (printed_code l) ≡ true
code_flat l h = both_flat (replicate (2 * l.level) 32) (pieces_text l.pieces) (gap_flat (2 * l.level)) (pieces_flat l.pieces h)

-- ---- rows

pub rows_printed : (ls : List Printed) → ArePrinted ls → (rest : List ℕ) → rows (printed_text ls ++ rest) ≡ map printed_line ls ++ rows rest
rows_printed [] h rest = refl
rows_printed (l ∷ ls) h rest =
    ap rows (append_assoc (printed_line l) (printed_text ls) rest) ∙ plain_row (printed_code l) (printed_text ls ++ rest) (code_flat l h.0.1)
    ∙ ap (λ rs. printed_line l ∷ rs) (rows_printed ls h.1 rest)

rows_nil : rows [] ≡ []
unfolding rows
rows_nil = refl

pub rows_whole : (ls : List Printed) → ArePrinted ls → rows (printed_text ls) ≡ map printed_line ls
rows_whole ls h = ap rows (sym (append-nil (printed_text ls))) ∙ rows_printed ls h [] ∙ ap (λ rs. map printed_line ls ++ rs) rows_nil ∙ append-nil (map printed_line ls)

-- ---- lines that are no keyword lines

pub other_byte : (b : ℕ) (row : List ℕ) → eqb 70 b ≡ false → eqb 83 b ≡ false → eqb 84 b ≡ false → is_keyword format.Script (b ∷ row) ≡ false
unfolding is_keyword
other_byte b row f s t = or_from _ _ (and_left _ _ (and_left (eqb 70 b) _ f)) (or_from _ _ (and_left _ _ (and_left (eqb 83 b) _ s)) (and_left _ _ (and_left (eqb 84 b) _ t)))

pub deep_row : (n : ℕ) (x y : List ℕ) → 1 ≤ n → is_keyword format.Script ((replicate (2 * n) 32 ++ x) ++ y) ≡ false
deep_row n x y h =
    let m = 2 * n - 1 in
    let e : 2 * n ≡ suc m = omega (arith, h) in
    ap (λ k. is_keyword format.Script ((replicate k 32 ++ x) ++ y)) e ∙ other_byte 32 ((replicate m 32 ++ x) ++ y) refl refl refl
