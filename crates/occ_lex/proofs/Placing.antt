-- What a text reads as lies in the text.
use Rattle.std.proofs.Common.{◌≡◌, ℕ, zero, suc, ◌+◌, ◌-◌, ◌/◌, ◌%◌, ◌<◌, ◌≤◌, Bool, true, false, cond, eqb, leb, min, ◌&&◌, List, [], ◌∷◌, ◌++◌, length, take, drop, Option, Some, None, Result, Ok, Err, refl, sym, ap, subst, ◌∙◌, arith, append_assoc, ⊎_elim}
use Rattle.std.specs.Prelude.{is_ok, IsTrue, IfSome}
use Rattle.std.specs.List.{AllByRecursion, concat, list_all, list_any, prefix_len}
use Rattle.std.proofs.lemmas.Bool.{eqb-true, eqb-false, cases_Bool, cond-true, cond-false, both_ways}
use Rattle.std.proofs.lemmas.List.{drop_at, drop-drop, length-append, length-drop, length-take, take-append-le, take_min}
use Rattle.occ_lex.specs.declared.fault.LineFault.{LineFault}
use Rattle.occ_lex.specs.declared.fault.LineFault.TheVariants as fault
use Rattle.occ_lex.specs.declared.token.Line.{Line}
use Rattle.occ_lex.specs.declared.token.Token.{Token}
use Rattle.occ_lex.specs.declared.token.TokenKind.{TokenKind}
use Rattle.occ_lex.specs.declared.token.TokenKind.TheVariants as kind
use Rattle.occ_lex.specs.Placed.{IsTokenOf, IsLineOf, AreNumbered, IsReadingOf}
use Rattle.occ_lex.specs.Rows.{in_front, rows, ends_code, code_of, is_tab, is_space, line_of, then_reads, read_rows, reading_of}
use Rattle.occ_lex.specs.Spelling.{kind_of, value_of}
use Rattle.occ_lex.specs.Token.{text_of}
use Rattle.occ_lex.specs.Tokens.{◌>>=◌, longest, first_token, judged, token_at, tokens}
use Rattle.occ_lex.proofs.RowLemmas.{rows_feed, rows_more, code_stop, code_go, code_nil}
use Rattle.occ_lex.proofs.TokenLemmas.{space_front, bound, token_some}

-- ---- steps that did not fail

bind_ok : {A B : Type 0} (read : Result A LineFault) (next : A → Result B LineFault) (y : B) → (read >>= next) ≡ Ok y → (x : A) × (read ≡ Ok x) × (next x ≡ Ok y)
bind_ok (Ok x) next y h = (x, refl, h)
bind_ok (Err e) next y h = absurd cc

abbrev done : {A : Type 0} → A → Result A LineFault
done x = Ok x

ok_is : {A : Type 0} (x y : A) → done x ≡ done y → x ≡ y
ok_is x y h = cc

guard_ok : {A : Type 0} (b : Bool) (e : LineFault) (read : Result A LineFault) (y : A) → cond b (Err e) read ≡ Ok y → (b ≡ false) × (read ≡ Ok y)
guard_ok true e read y h = absurd cc
guard_ok false e read y h = (refl, h)

-- ---- a token

-- a token without fault is the text that was judged
judged_ok : (k : Option TokenKind) (text : List ℕ) (token : TokenKind × ℕ) → judged k text ≡ Ok token → (k ≡ Some token.0) × (token.1 ≡ length text) × IsTrue (is_ok (judged (Some token.0) text))
judged_ok None text token h = absurd cc
judged_ok (Some kind.Numeral) text token h = small (leb (value_of text) 255) refl
  where
    small : (b : Bool) → leb (value_of text) 255 ≡ b → (Some kind.Numeral ≡ Some token.0) × (token.1 ≡ length text) × IsTrue (is_ok (judged (Some token.0) text))
    small true e =
        let is : (kind.Numeral, length text) ≡ token = ok_is (kind.Numeral, length text) token (sym (cond-true (leb (value_of text) 255) (Ok (kind.Numeral, length text)) (Err fault.Number) e) ∙ h) in
        subst (λ (t : TokenKind × ℕ). (Some kind.Numeral ≡ Some t.0) × (t.1 ≡ length text) × IsTrue (is_ok (judged (Some t.0) text))) is (refl, refl, ap is_ok (cond-true (leb (value_of text) 255) (Ok (kind.Numeral, length text)) (Err fault.Number) e))
    small false e = absurd (apart token (sym (cond-false (leb (value_of text) 255) (Ok (kind.Numeral, length text)) (Err fault.Number) e) ∙ h))
      where
        apart : (t : TokenKind × ℕ) → Err fault.Number ≡ done t → ⊥
        apart t e = cc
judged_ok (Some kind.Name) text token h = short (leb (length text) 32) refl
  where
    short : (b : Bool) → leb (length text) 32 ≡ b → (Some kind.Name ≡ Some token.0) × (token.1 ≡ length text) × IsTrue (is_ok (judged (Some token.0) text))
    short true e =
        let is : (kind.Name, length text) ≡ token = ok_is (kind.Name, length text) token (sym (cond-true (leb (length text) 32) (Ok (kind.Name, length text)) (Err fault.Name) e) ∙ h) in
        subst (λ (t : TokenKind × ℕ). (Some kind.Name ≡ Some t.0) × (t.1 ≡ length text) × IsTrue (is_ok (judged (Some t.0) text))) is (refl, refl, ap is_ok (cond-true (leb (length text) 32) (Ok (kind.Name, length text)) (Err fault.Name) e))
    short false e = absurd (apart token (sym (cond-false (leb (length text) 32) (Ok (kind.Name, length text)) (Err fault.Name) e) ∙ h))
      where
        apart : (t : TokenKind × ℕ) → Err fault.Name ≡ done t → ⊥
        apart t e = cc
judged_ok (Some kind.Sign) text token h =
    subst (λ (t : TokenKind × ℕ). (Some kind.Sign ≡ Some t.0) × (t.1 ≡ length text) × IsTrue (is_ok (judged (Some t.0) text))) (ok_is (kind.Sign, length text) token h) (refl, refl, refl)
judged_ok (Some kind.Word) text token h =
    subst (λ (t : TokenKind × ℕ). (Some kind.Word ≡ Some t.0) × (t.1 ≡ length text) × IsTrue (is_ok (judged (Some t.0) text))) (ok_is (kind.Word, length text) token h) (refl, refl, refl)

-- the bytes of a token in front of what is left of the text
front_text : (text bytes after : List ℕ) (place n len : ℕ) → drop place text ≡ bytes ++ after → len ≡ length (take n bytes) → 0 < len → take (place + (len - 1) + 1 - place) (drop place text) ≡ take n bytes
front_text text bytes after place n len at is some =
    let same : place + (len - 1) + 1 - place ≡ min n (length bytes) = omega (arith, is, length-take n bytes) in
    let within : min n (length bytes) ≤ length bytes = omega arith in
    ap (λ k. take k (drop place text)) same ∙ ap (take (min n (length bytes))) at ∙ take-append-le (min n (length bytes)) bytes after within ∙ take_min n bytes

token_placed : (text bytes after : List ℕ) (place : ℕ) (token : TokenKind × ℕ) → drop place text ≡ bytes ++ after → first_token bytes ≡ Ok token → IsTokenOf text (token_at place token)
unfolding first_token
token_placed text bytes after place token at first =
    let front = take (longest bytes) bytes in
    let is = judged_ok (kind_of front) front token first in
    let some : 0 < token.1 = omega (arith, is.1, token_some front token.0 is.0) in
    let same : text_of (token_at place token) text ≡ front = front_text text bytes after place (longest bytes) token.1 at is.1 some in
    record {
      ordered = omega arith;
      within = omega (arith, is.1, length-take (longest bytes) bytes, ap length at, length-append bytes after, length-drop place text, some);
      spelled = ap kind_of same ∙ is.0;
      good = ap (λ t. is_ok (judged (Some token.0) t)) same ∙ is.2;
    }

-- ---- the tokens of a line

drop_next : (text rest : List ℕ) (place byte : ℕ) → drop place text ≡ byte ∷ rest → drop (place + 1) text ≡ rest
drop_next text rest place byte h = sym (drop-drop 1 place text) ∙ ap (drop 1) h

tokens_placed : (text : List ℕ) (place taken : ℕ) (code after : List ℕ) (found : List Token) → drop place text ≡ code ++ after → tokens place taken code ≡ Ok found → AllByRecursion (IsTokenOf text) found
unfolding tokens
tokens_placed text place taken [] after found at read = subst (AllByRecursion (IsTokenOf text)) (ok_is [] found read) tt
tokens_placed text place (suc taken) (byte ∷ code) after found at read = tokens_placed text (place + 1) taken code after found (drop_next text (code ++ after) place byte at) read
tokens_placed text place zero (byte ∷ code) after found at read = ⊎_elim
    (λ (space : eqb byte 32 ≡ true). tokens_placed text (place + 1) 0 code after found (drop_next text (code ++ after) place byte at) (sym (space_front place byte code (eqb-true byte 32 space)) ∙ read))
    (λ (other : eqb byte 32 ≡ false).
    let first = bind_ok (first_token (byte ∷ code)) (λ token. tokens (place + 1) (token.1 - 1) code >>= λ others. Ok (token_at place token ∷ others)) found (sym (bound place byte code (eqb-false byte 32 other)) ∙ read) in
    let later = bind_ok (tokens (place + 1) (first.0.1 - 1) code) (λ others. Ok (token_at place first.0 ∷ others)) found first.2 in
    subst (AllByRecursion (IsTokenOf text)) (ok_is (token_at place first.0 ∷ later.0) found later.2)
    (token_placed text (byte ∷ code) after place first.0 at first.1, tokens_placed text (place + 1) (first.0.1 - 1) code after later.0 (drop_next text (code ++ after) place byte at) later.1))
    (cases_Bool (eqb byte 32))

cons_some : (token : Token) (others found : List Token) → token ∷ others ≡ found → 0 < length found
cons_some token others found h = omega (arith, ap length h)

tokens_some : (place : ℕ) (code : List ℕ) (found : List Token) → list_all is_space code ≡ false → tokens place 0 code ≡ Ok found → 0 < length found
unfolding tokens
tokens_some place [] found other read = absurd (both_ways true other refl)
tokens_some place (byte ∷ code) found other read = ⊎_elim
    (λ (space : eqb byte 32 ≡ true). tokens_some (place + 1) code found (and_rest (eqb byte 32) (list_all is_space code) space other) (sym (space_front place byte code (eqb-true byte 32 space)) ∙ read))
    (λ (no_space : eqb byte 32 ≡ false).
    let first = bind_ok (first_token (byte ∷ code)) (λ token. tokens (place + 1) (token.1 - 1) code >>= λ others. Ok (token_at place token ∷ others)) found (sym (bound place byte code (eqb-false byte 32 no_space)) ∙ read) in
    let later = bind_ok (tokens (place + 1) (first.0.1 - 1) code) (λ others. Ok (token_at place first.0 ∷ others)) found first.2 in
    cons_some (token_at place first.0) later.0 found (ok_is (token_at place first.0 ∷ later.0) found later.2))
    (cases_Bool (eqb byte 32))
  where
    and_rest : (a b : Bool) → a ≡ true → (a && b) ≡ false → b ≡ false
    and_rest true b h e = e
    and_rest false b h e = absurd (both_ways true (sym h) refl)

-- ---- a line

code_front : (row : List ℕ) → (tail : List ℕ) × (row ≡ code_of row ++ tail)
unfolding code_of
code_front [] = ([], sym code_nil)
code_front (byte ∷ rest) = ⊎_elim
    (λ (stops : ends_code (byte ∷ rest) ≡ true). (byte ∷ rest, ap (λ front. front ++ byte ∷ rest) (sym (code_stop (byte ∷ rest) stops))))
    (λ (goes : ends_code (byte ∷ rest) ≡ false).
    let front = code_front rest in
    (front.0, ap (λ bytes. byte ∷ bytes) front.1 ∙ ap (λ bytes. bytes ++ front.0) (sym (code_go byte rest goes))))
    (cases_Bool (ends_code (byte ∷ rest)))

-- a line of the text with this number
abbrev IsNumbered : List ℕ → ℕ → Line → Type 0
IsNumbered text number line = IsLineOf text line × (line.number ≡ number)

blank_or_line : (b : Bool) (read : Result (Option Line) LineFault) (line : Line) → cond b (Ok None) read ≡ Ok (Some line) → (b ≡ false) × (read ≡ Ok (Some line))
blank_or_line true read line h = absurd (apart line (ok_is None (Some line) h))
  where
    apart : (l : Line) → None ≡ Some l → ⊥
    apart l e = cc
blank_or_line false read line h = (refl, h)

some_is : (x y : Line) → Some x ≡ Some y → x ≡ y
some_is x y h = cc

line_placed : (text row after : List ℕ) (number place : ℕ) (line : Line) → drop place text ≡ row ++ after → line_of number place row ≡ Ok (Some line) → IsNumbered text number line
unfolding line_of
line_placed text row after number place line at read =
    let code = code_of row in
    let no_tab = guard_ok (list_any is_tab code) fault.Tab _ (Some line) read in
    let not_blank = blank_or_line (list_all is_space code) _ line no_tab.1 in
    let even = guard_ok (eqb (prefix_len is_space code % 2) 1) fault.OddIndent _ (Some line) not_blank.1 in
    let found = bind_ok (tokens place 0 code) (λ there. Ok (Some (record { number = number; level = prefix_len is_space code / 2; tokens = there }))) (Some line) even.1 in
    let front = code_front row in
    let in_text : drop place text ≡ code ++ (front.0 ++ after) = at ∙ ap (λ bytes. bytes ++ after) front.1 ∙ append_assoc code front.0 after in
    let made : Line = record { number = number; level = prefix_len is_space code / 2; tokens = found.0 } in
    subst (IsNumbered text number) (some_is made line (ok_is (Some made) (Some line) found.2))
    (record { some = tokens_some place code found.0 not_blank.0 found.1; tokens = tokens_placed text place 0 code (front.0 ++ after) found.0 in_text found.1 }, refl)

-- ---- the rows

concat_front : (byte : ℕ) (text : List ℕ) (others : List (List ℕ)) → concat others ≡ text → concat (in_front byte others) ≡ byte ∷ text
concat_front byte text [] h = ap (λ bytes. byte ∷ bytes) h
concat_front byte text (row ∷ others) h = ap (λ bytes. byte ∷ bytes) h

-- a text is its rows
pub concat-rows : (text : List ℕ) → concat (rows text) ≡ text
unfolding rows
concat-rows [] = refl
concat-rows (byte ∷ text) = ⊎_elim
    (λ (feed : eqb byte 10 ≡ true). ap concat (rows_feed byte text (eqb-true byte 10 feed)) ∙ ap (λ bytes. byte ∷ bytes) (concat-rows text))
    (λ (other : eqb byte 10 ≡ false). ap concat (rows_more byte text (eqb-false byte 10 other)) ∙ concat_front byte text (rows text) (concat-rows text))
    (cases_Bool (eqb byte 10))

after_row : (text row rest : List ℕ) (place : ℕ) → drop place text ≡ row ++ rest → drop (place + length row) text ≡ rest
after_row text row rest place at = sym (drop-drop (length row) place text) ∙ ap (drop (length row)) at ∙ drop_at row rest (length row) refl

numbered_from : (a b : ℕ) (lines : List Line) → a ≤ b → AreNumbered b lines → AreNumbered a lines
numbered_from a b [] h are = tt
numbered_from a b (line ∷ lines) h are = (omega (arith, h, are.0), are.1)

above_weaker : (number : ℕ) (found : Option (ℕ × LineFault)) → IfSome found (λ f. number + 1 ≤ f.0) → IfSome found (λ f. number ≤ f.0)
above_weaker number None h = tt
above_weaker number (Some f) h = omega (arith, h)

fault_step : (number : ℕ) (read : Result (Option Line) LineFault) (later : List Line × Option (ℕ × LineFault)) → IfSome later.1 (λ f. number + 1 ≤ f.0) → IfSome (then_reads read number later).1 (λ found. number ≤ found.0)
fault_step number (Ok line) later above = above_weaker number later.1 above
fault_step number (Err e) later above = omega arith

fault_from : (number place : ℕ) (others : List (List ℕ)) → IfSome (read_rows number place others).1 (λ found. number ≤ found.0)
unfolding read_rows
fault_from number place [] = tt
fault_from number place (row ∷ others) =
    fault_step number (line_of number place row) (read_rows (number + 1) (place + length row) others) (fault_from (number + 1) (place + length row) others)

before_more : (line : Line) (lines : List Line) (number : ℕ) (found : Option (ℕ × LineFault)) → line.number ≡ number → IfSome found (λ f. number + 1 ≤ f.0) → IfSome found (λ f. AllByRecursion (λ l. l.number < f.0) lines)
    → IfSome found (λ f. AllByRecursion (λ l. l.number < f.0) (line ∷ lines))
before_more line lines number None is above before = tt
before_more line lines number (Some f) is above before = (omega (arith, is, above), before)

-- what is read from rows of the text on
record IsReadFrom (text : List ℕ) (number : ℕ) (read : List Line × Option (ℕ × LineFault)) : Type 0 where
  all : AllByRecursion (IsLineOf text) read.0
  numbered : AreNumbered number read.0
  before : IfSome read.1 (λ found. AllByRecursion (λ line. line.number < found.0) read.0)

read_step : (text : List ℕ) (number : ℕ) (read : Result (Option Line) LineFault) (later : List Line × Option (ℕ × LineFault)) → ((line : Line) → read ≡ Ok (Some line) → IsNumbered text number line)
    → IfSome later.1 (λ f. number + 1 ≤ f.0) → IsReadFrom text (number + 1) later → IsReadFrom text number (then_reads read number later)
read_step text number (Ok None) later placed above are = record { all = are.all; numbered = numbered_from number (number + 1) later.0 (omega arith) are.numbered; before = are.before }
read_step text number (Ok (Some line)) later placed above are =
    let is : IsNumbered text number line = placed line refl in
    record {
      all = (is.0, are.all);
      numbered = (omega (arith, is.1), numbered_from (line.number + 1) (number + 1) later.0 (omega (arith, is.1)) are.numbered);
      before = before_more line later.0 number later.1 is.1 above are.before;
    }
read_step text number (Err e) later placed above are = record { all = tt; numbered = tt; before = tt }

rows_placed : (text : List ℕ) (number place : ℕ) (others : List (List ℕ)) → drop place text ≡ concat others → IsReadFrom text number (read_rows number place others)
unfolding read_rows
rows_placed text number place [] at = record { all = tt; numbered = tt; before = tt }
rows_placed text number place (row ∷ others) at =
    read_step text number (line_of number place row) (read_rows (number + 1) (place + length row) others) (λ line is. line_placed text row (concat others) number place line at is)
    (fault_from (number + 1) (place + length row) others)
    (rows_placed text (number + 1) (place + length row) others (after_row text row (concat others) place at))

pub reading_placed : (text : List ℕ) → IsReadingOf text (reading_of text).0 (reading_of text).1
unfolding reading_of
reading_placed text =
    let are = rows_placed text 1 0 (rows text) (sym (concat-rows text)) in
    record { lines_of_text = are.all; numbered = are.numbered; before_fault = are.before }
