-- The lines that are read from rows of a text lie in the text: a row at a place reads as it does behind so many line feeds.
use Rattle.std.proofs.Common.{◌≡◌, ℕ, zero, suc, ◌+◌, ◌-◌, ◌/◌, ◌%◌, ◌≤◌, Bool, true, false, cond, eqb, List, [], ◌∷◌, ◌++◌, length, take, drop, replicate, Option, Some, None, Result, Ok, Err, refl, sym, ap, subst, ◌∙◌, arith, append_assoc, ⊎_elim}
use Rattle.std.specs.Prelude.{is_ok, is_some}
use Rattle.std.specs.List.{AllByRecursion, concat, list_all, list_any, prefix_len}
use Rattle.std.proofs.ByRecursion.{All-weaker}
use Rattle.std.proofs.lemmas.Bool.{eqb-true, eqb-false, cases_Bool, cond-true, cond-false, both_ways}
use Rattle.std.proofs.lemmas.List.{drop_at, drop-drop, length-append, length-drop, length-replicate, take-append-le}
use Rattle.occ_lex.specs.declared.fault.LineFault.{LineFault}
use Rattle.occ_lex.specs.declared.fault.LineFault.TheVariants as fault
use Rattle.occ_lex.specs.declared.token.Line.{Line}
use Rattle.occ_lex.specs.declared.token.Token.{Token}
use Rattle.occ_lex.specs.declared.token.TokenKind.{TokenKind}
use Rattle.occ_lex.specs.Placed.{IsTokenOf, IsLineOf}
use Rattle.occ_lex.specs.Rows.{in_front, rows, ends_code, code_of, is_tab, is_space, line_of, then_reads, read_rows, reading_of}
use Rattle.occ_lex.specs.Spelling.{is_sign, kind_of}
use Rattle.occ_lex.specs.Token.{text_of}
use Rattle.occ_lex.specs.Tokens.{◌>>=◌, judged, tokens}
use Rattle.occ_lex.proofs.Classes.{kind_nil, kind_other}
use Rattle.occ_lex.proofs.Placing.{reading_placed}
use Rattle.occ_lex.proofs.RowLemmas.{rows_feed, rows_more, code_stop}

-- a text behind so many line feeds
abbrev feeds : ℕ → List ℕ → List ℕ
feeds n text = replicate n 10 ++ text

-- the line feeds add no line
feeds_read : (n number place there : ℕ) (text : List ℕ) → there ≡ place + n → (later : ℕ) × ((read_rows number place (rows (feeds n text))).0 ≡ (read_rows later there (rows text)).0)
unfolding read_rows line_of code_of
feeds_read zero number place there text h = let same : place ≡ there = omega (arith, h) in (number, ap (λ k. (read_rows number k (rows text)).0) same)
feeds_read (suc n) number place there text h =
    let next = feeds_read n (number + 1) (place + 1) there text (omega (arith, h)) in
    (next.0, ap (λ rs. (read_rows number place rs).0) (rows_feed 10 (feeds n text) refl) ∙ next.1)

-- no token begins with a line feed
feeds_past : (n i len : ℕ) (text : List ℕ) (k : TokenKind) → kind_of (take len (drop i (feeds n text))) ≡ Some k → n ≤ i
unfolding is_sign
feeds_past zero i len text k h = omega arith
feeds_past (suc n) (suc i) len text k h = omega (arith, feeds_past n i len text k h)
feeds_past (suc n) zero zero text k h = absurd (both_ways (is_some (kind_of [])) (ap is_some kind_nil) (ap is_some h))
feeds_past (suc n) zero (suc len) text k h = absurd (both_ways (is_some (kind_of (10 ∷ take len (feeds n text)))) (kind_other 10 (take len (feeds n text)) refl refl) (ap is_some h))

cut : (len at : ℕ) (row after : List ℕ) → at + len ≤ length row → take len (drop at (row ++ after)) ≡ take len (drop at row)
cut len zero row after h = take-append-le len row after (omega (arith, h))
cut len (suc at) [] after h = absurd (omega (arith, h))
cut len (suc at) (byte ∷ row) after h = cut len at row after (omega (arith, h))

-- a token of a row behind line feeds is one of each text in which the row stands at that place
token_there : (text row after : List ℕ) (place : ℕ) → drop place text ≡ row ++ after → (token : Token) → IsTokenOf (feeds place row) token → IsTokenOf text token
token_there text row after place at token is =
    let len = token.last + 1 - token.first in
    let skip = token.first - place in
    let past = feeds_past place token.first len row token.kind is.spelled in
    let on : token.first ≡ place + skip = omega (arith, past) in
    let behind : (bytes : List ℕ) → drop token.first bytes ≡ drop skip (drop place bytes) = λ bytes. ap (λ k. drop k bytes) on ∙ sym (drop-drop skip place bytes) in
    let short : skip + len ≤ length row = omega (arith, past, is.ordered, is.within, length-append (replicate place 10) row, length-replicate {A = ℕ} place 10) in
    let alone : drop place (feeds place row) ≡ row = drop_at (replicate place 10) row place (length-replicate {A = ℕ} place 10) in
    let same : text_of token text ≡ text_of token (feeds place row) =
    ap (take len) (behind text ∙ ap (drop skip) at) ∙ cut len skip row after short ∙ sym (ap (take len) (behind (feeds place row) ∙ ap (drop skip) alone)) in
    record {
      ordered = is.ordered;
      within = omega (arith, past, is.ordered, short, ap length at, length-append row after, length-drop place text);
      spelled = ap kind_of same ∙ is.spelled;
      good = ap (λ t. is_ok (judged (Some token.kind) t)) same ∙ is.good;
    }

-- the first row of bytes has the code that they have as a row
first_code : (byte : ℕ) (rest : List ℕ) → (front : List ℕ) × (others : List (List ℕ)) × (rows (byte ∷ rest) ≡ (byte ∷ front) ∷ others) × (code_of (byte ∷ front) ≡ code_of (byte ∷ rest))
unfolding code_of rows
first_code byte [] = let row = (byte ∷ []) ∷ [] in ([], [], ⊎_elim (cond-true (eqb byte 10) row row) (cond-false (eqb byte 10) row row) (cases_Bool (eqb byte 10)), refl)
first_code byte (next ∷ rest) = ⊎_elim
    (λ (feed : eqb byte 10 ≡ true).
    let is = eqb-true byte 10 feed in
    let none : (bytes : List ℕ) → code_of (byte ∷ bytes) ≡ [] = λ bytes. code_stop (byte ∷ bytes) (ap (λ b. ends_code (b ∷ bytes)) is) in
    ([], rows (next ∷ rest), rows_feed byte (next ∷ rest) is, none [] ∙ sym (none (next ∷ rest))))
    (λ (other : eqb byte 10 ≡ false).
    let later = first_code next rest in
    (next ∷ later.0, later.1, rows_more byte (next ∷ rest) (eqb-false byte 10 other) ∙ ap (in_front byte) later.2, ap (λ code. cond (ends_code (byte ∷ next ∷ rest)) [] (byte ∷ code)) later.3))
    (cases_Bool (eqb byte 10))

-- a line, from what is found out about its row
abbrev made : Bool → Bool → Bool → ℕ → Result (List Token) LineFault → ℕ → Result (Option Line) LineFault
made tab blank odd level found number =
    cond tab (Err fault.Tab) (cond blank (Ok None) (cond odd (Err fault.OddIndent) (found >>= λ there. Ok (Some (record { number = number; level = level; tokens = there })))))

-- the lines of a row and those behind it, where the row behind line feeds, with another number, has lines of its text
lines_there : (text row after : List ℕ) (place : ℕ) → drop place text ≡ row ++ after → (tab blank odd : Bool) (level : ℕ) (found : Result (List Token) LineFault) (n m : ℕ) (later others : List Line × Option (ℕ × LineFault))
    → AllByRecursion (IsLineOf (feeds place row)) (then_reads (made tab blank odd level found n) n later).0 → AllByRecursion (IsLineOf text) others.0 → AllByRecursion (IsLineOf text) (then_reads (made tab blank odd level found m) m others).0
lines_there text row after place at true blank odd level found n m later others here all = tt
lines_there text row after place at false true odd level found n m later others here all = all
lines_there text row after place at false false true level found n m later others here all = tt
lines_there text row after place at false false false level (Err fault) n m later others here all = tt
lines_there text row after place at false false false level (Ok there) n m later others here all =
    (record { some = here.0.some; tokens = All-weaker (IsTokenOf (feeds place row)) (IsTokenOf text) (token_there text row after place at) there here.0.tokens }, all)

-- the lines that are read from rows are lines of the text in which the rows stand
pub lines_placed : (text after : List ℕ) (number place : ℕ) (others : List (List ℕ)) → drop place text ≡ concat others ++ after → AllByRecursion (IsLineOf text) (read_rows number place others).0
unfolding read_rows reading_of line_of code_of
lines_placed text after number place [] at = tt
lines_placed text after number place ([] ∷ others) at =
    let same : place ≡ place + 0 = omega arith in
    lines_placed text after (number + 1) (place + 0) others (ap (λ k. drop k text) (sym same) ∙ at)
lines_placed text after number place ((byte ∷ rest) ∷ others) at =
    let row = byte ∷ rest in
    let here : drop place text ≡ row ++ (concat others ++ after) = at ∙ append_assoc row (concat others) after in
    let next : drop (place + length row) text ≡ concat others ++ after = sym (drop-drop (length row) place text) ∙ ap (drop (length row)) here ∙ drop_at row (concat others ++ after) (length row) refl in
    let first = first_code byte rest in
    let alone = feeds_read place 1 0 place row (omega arith) in
    let lines = subst (AllByRecursion (IsLineOf (feeds place row))) (alone.1 ∙ ap (λ rs. (read_rows alone.0 place rs).0) first.2) (reading_placed (feeds place row)).lines_of_text in
    let code = code_of row in
    lines_there text row (concat others ++ after) place here (list_any is_tab code) (list_all is_space code) (eqb (prefix_len is_space code % 2) 1) (prefix_len is_space code / 2) (tokens place 0 code) alone.0 number
    (read_rows (alone.0 + 1) (place + length (byte ∷ first.0)) first.1) (read_rows (number + 1) (place + length row) others)
    (rw (sym first.3) lines) (lines_placed text after (number + 1) (place + length row) others next)
