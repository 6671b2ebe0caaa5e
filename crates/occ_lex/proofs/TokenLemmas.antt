-- The tokens of a line, one after the other.
use Rattle.std.proofs.Common.{◌≡◌, ℕ, zero, suc, ◌+◌, ◌-◌, ◌<◌, ◌≤◌, Bool, true, false, cond, eqb, leb, ◌&&◌, List, [], ◌∷◌, ◌++◌, length, get_or, take, drop, Option, Some, None, Result, Ok, Err, refl, sym, ap, ◌∙◌, arith, append_assoc}
use Rattle.std.specs.Prelude.{IfOk}
use Rattle.std.proofs.lemmas.Result.{IfOk-weaker}
use Rattle.std.proofs.lemmas.Bool.{cond-true, cond-false, eq-eqb, ne_eqb}
use Rattle.std.proofs.lemmas.List.{append-nil, drop_more, drop_all, length-take-le, drop-drop}
use Rattle.occ_lex.specs.declared.fault.LineFault.{LineFault}
use Rattle.occ_lex.specs.declared.fault.LineFault.TheVariants as fault
use Rattle.occ_lex.specs.declared.token.Token.{Token}
use Rattle.occ_lex.specs.declared.token.TokenKind.{TokenKind}
use Rattle.occ_lex.specs.declared.token.TokenKind.TheVariants as kind
use Rattle.occ_lex.specs.Spelling.{is_reserved, is_name, is_numeral, is_sign, kind_of, value_of, numeral_value}
use Rattle.occ_lex.specs.Tokens.{◌>>=◌, first_token, judged, token_at, tokens}
use Rattle.occ_lex.proofs.Classes.{kind_nil}

-- tokens found before, and those of what is left
abbrev pub with_front : List Token → Result (List Token) LineFault → Result (List Token) LineFault
with_front front read = read >>= λ found. Ok (front ++ found)

pub with_front-with_front : (front next : List Token) (read : Result (List Token) LineFault) → with_front front (with_front next read) ≡ with_front (front ++ next) read
with_front-with_front front next (Ok found) = ap (λ (all : List Token). Ok all) (sym (append_assoc front next found))
with_front-with_front front next (Err e) = refl

pub with_front-nil : (read : Result (List Token) LineFault) → with_front [] read ≡ read
with_front-nil (Ok found) = refl
with_front-nil (Err e) = refl

-- bytes that belong to the token before are passed over
pub tokens_taken : (place taken : ℕ) (bytes : List ℕ) → tokens place taken bytes ≡ tokens (place + taken) 0 (drop taken bytes)
unfolding tokens
tokens_taken place zero bytes = ap (λ p. tokens p 0 bytes) (omega arith)
tokens_taken place (suc taken) [] = refl
tokens_taken place (suc taken) (byte ∷ bytes) =
    tokens_taken (place + 1) taken bytes ∙ ap (λ p. tokens p 0 (drop taken bytes)) (omega arith)

pub space_front : (place byte : ℕ) (bytes : List ℕ) → byte ≡ 32 → tokens place 0 (byte ∷ bytes) ≡ tokens (place + 1) 0 bytes
unfolding tokens
space_front place byte bytes h = cond-true (eqb byte 32) (tokens (place + 1) 0 bytes) _ (eq-eqb byte 32 h)

pub bound : (place : ℕ) (byte : ℕ) (bytes : List ℕ) → (byte ≡ 32 → ⊥)
    → tokens place 0 (byte ∷ bytes) ≡ (first_token (byte ∷ bytes) >>= λ token. tokens (place + 1) (token.1 - 1) bytes >>= λ others. Ok (token_at place token ∷ others))
unfolding tokens
bound place byte bytes h = cond-false (eqb byte 32) (tokens (place + 1) 0 bytes) _ (ne_eqb byte 32 h)

fault_front : (place byte : ℕ) (bytes : List ℕ) (e : LineFault) → (byte ≡ 32 → ⊥) → first_token (byte ∷ bytes) ≡ Err e → tokens place 0 (byte ∷ bytes) ≡ Err e
fault_front place byte bytes e h f =
    bound place byte bytes h ∙ ap (λ read. read >>= λ token. tokens (place + 1) (token.1 - 1) bytes >>= λ others. Ok (token_at place token ∷ others)) f

pub token_front : (place byte : ℕ) (bytes : List ℕ) (k : TokenKind) (len : ℕ) → (byte ≡ 32 → ⊥) → first_token (byte ∷ bytes) ≡ Ok (k, len) → 0 < len
    → tokens place 0 (byte ∷ bytes) ≡ with_front (token_at place (k, len) ∷ []) (tokens (place + len) 0 (drop len (byte ∷ bytes)))
token_front place byte bytes k zero h f some = absurd (omega (arith, some))
token_front place byte bytes k (suc len) h f some =
    let one_less : suc len - 1 ≡ len = omega arith in
    bound place byte bytes h
    ∙ ap (λ read. read >>= λ token. tokens (place + 1) (token.1 - 1) bytes >>= λ others. Ok (token_at place token ∷ others)) f
    ∙ ap (λ n. tokens (place + 1) n bytes >>= λ others. Ok (token_at place (k, suc len) ∷ others)) one_less
    ∙ ap (λ read. read >>= λ others. Ok (token_at place (k, suc len) ∷ others)) (tokens_taken (place + 1) len bytes ∙ ap (λ p. tokens p 0 (drop len bytes)) (omega arith))

-- at a place of a line's bytes
pub at_space : (first at : ℕ) (code : List ℕ) → at < length code → get_or code at 0 ≡ 32 → tokens (first + at) 0 (drop at code) ≡ tokens (first + (at + 1)) 0 (drop (at + 1) code)
at_space first at code within h =
    ap (tokens (first + at) 0) (drop_more code at 0 within) ∙ space_front (first + at) (get_or code at 0) (drop (at + 1) code) h ∙ ap (λ p. tokens p 0 (drop (at + 1) code)) (omega arith)

pub at_fault : (first at : ℕ) (code : List ℕ) (e : LineFault) → at < length code → (get_or code at 0 ≡ 32 → ⊥) → first_token (drop at code) ≡ Err e → tokens (first + at) 0 (drop at code) ≡ Err e
at_fault first at code e within h f =
    ap (tokens (first + at) 0) (drop_more code at 0 within) ∙ fault_front (first + at) (get_or code at 0) (drop (at + 1) code) e h (ap first_token (sym (drop_more code at 0 within)) ∙ f)

pub at_token : (first at : ℕ) (code : List ℕ) (k : TokenKind) (len : ℕ) → at < length code → (get_or code at 0 ≡ 32 → ⊥) → first_token (drop at code) ≡ Ok (k, len) → 0 < len
    → tokens (first + at) 0 (drop at code) ≡ with_front (token_at (first + at) (k, len) ∷ []) (tokens (first + (at + len)) 0 (drop (at + len) code))
at_token first at code k len within h f some =
    let split = drop_more code at 0 within in
    ap (tokens (first + at) 0) split
    ∙ token_front (first + at) (get_or code at 0) (drop (at + 1) code) k len h (ap first_token (sym split) ∙ f) some
    ∙ ap (λ bytes. with_front (token_at (first + at) (k, len) ∷ []) (tokens (first + at + len) 0 bytes)) (ap (drop len) (sym split) ∙ drop-drop len at code)
    ∙ ap (λ p. with_front (token_at (first + at) (k, len) ∷ []) (tokens p 0 (drop (at + len) code))) (omega arith)

-- one turn of the loop over a line, its end and its fault
pub space_turn : (found : List Token) (first at : ℕ) (code : List ℕ) (all : Result (List Token) LineFault) → at < length code → get_or code at 0 ≡ 32
    → with_front found (tokens (first + at) 0 (drop at code)) ≡ all → with_front found (tokens (first + (at + 1)) 0 (drop (at + 1) code)) ≡ all
space_turn found first at code all within h so_far = ap (with_front found) (sym (at_space first at code within h)) ∙ so_far

pub token_turn : (found : List Token) (first at : ℕ) (code : List ℕ) (all : Result (List Token) LineFault) (k : TokenKind) (len : ℕ) → at < length code → (get_or code at 0 ≡ 32 → ⊥)
    → first_token (drop at code) ≡ Ok (k, len) → 0 < len
    → with_front found (tokens (first + at) 0 (drop at code)) ≡ all
    → with_front (found ++ record { kind = k; first = first + at; last = first + at + (len - 1) } ∷ []) (tokens (first + (at + len)) 0 (drop (at + len) code)) ≡ all
token_turn found first at code all k len within h f some so_far =
    sym (with_front-with_front found (token_at (first + at) (k, len) ∷ []) (tokens (first + (at + len)) 0 (drop (at + len) code)))
    ∙ ap (with_front found) (sym (at_token first at code k len within h f some))
    ∙ so_far

pub fault_turn : (found : List Token) (first at : ℕ) (code : List ℕ) (all : Result (List Token) LineFault) (e : LineFault) → at < length code → (get_or code at 0 ≡ 32 → ⊥)
    → first_token (drop at code) ≡ Err e → with_front found (tokens (first + at) 0 (drop at code)) ≡ all → all ≡ Err e
fault_turn found first at code all e within h f so_far = sym so_far ∙ ap (with_front found) (at_fault first at code e within h f)

pub tokens_end : (found : List Token) (first at : ℕ) (code : List ℕ) (all : Result (List Token) LineFault) → length code ≤ at
    → with_front found (tokens (first + at) 0 (drop at code)) ≡ all → all ≡ Ok found
unfolding tokens
tokens_end found first at code all past so_far =
    sym so_far ∙ ap (λ bytes. with_front found (tokens (first + at) 0 bytes)) (drop_all at code past) ∙ ap (λ (front : List Token). Ok front) (append-nil found)

pub tokens_start : (first : ℕ) (code : List ℕ) → with_front [] (tokens (first + 0) 0 (drop 0 code)) ≡ tokens first 0 code
tokens_start first code = with_front-nil (tokens (first + 0) 0 code) ∙ ap (λ p. tokens p 0 code) (omega arith)

-- what the kind of a token says of its value
numeral_kind : (reserved named numeral sign : Bool) → cond reserved (Some kind.Word) (cond named (Some kind.Name) (cond numeral (Some kind.Numeral) (cond sign (Some kind.Sign) None))) ≡ Some kind.Numeral → numeral ≡ true
numeral_kind true named numeral sign h = absurd cc
numeral_kind false true numeral sign h = absurd cc
numeral_kind false false true sign h = refl
numeral_kind false false false true h = absurd cc
numeral_kind false false false false h = absurd cc

pub kind_numeral : (text : List ℕ) → kind_of text ≡ Some kind.Numeral → is_numeral text ≡ true
unfolding kind_of
kind_numeral text h = numeral_kind (is_reserved text) (is_name text) (is_numeral text) (is_sign text) h

pub numeral_small : (text : List ℕ) → kind_of text ≡ Some kind.Numeral → numeral_value text ≡ cond (leb (value_of text) 255) (Some (value_of text)) None
unfolding numeral_value
numeral_small text h = ap (λ b. cond (b && leb (value_of text) 255) (Some (value_of text)) None) (kind_numeral text h)

-- a token has a byte at least
pub token_some : (text : List ℕ) (k : TokenKind) → kind_of text ≡ Some k → 0 < length text
token_some [] k h = absurd (differ (sym kind_nil ∙ h))
  where
    differ : None ≡ Some k → ⊥
    differ e = cc
token_some (byte ∷ rest) k h = omega arith

abbrev ok_if : {X : Type 0} → Bool → X → LineFault → Result X LineFault
ok_if b x e = cond b (Ok x) (Err e)

either_ok : {X : Type 0} (P : X → Type 0) (b : Bool) (x : X) (y : LineFault) → P x → IfOk (ok_if b x y) P
either_ok P true x y h = h
either_ok P false x y h = tt

judged_some : (k : Option TokenKind) (text : List ℕ) → kind_of text ≡ k → IfOk (judged k text) (λ token. (0 < token.1) × (token.1 ≤ length text))
judged_some None text h = tt
judged_some (Some kind.Numeral) text h = either_ok (λ token. (0 < token.1) × (token.1 ≤ length text)) (leb (value_of text) 255) (kind.Numeral, length text) fault.Number (token_some text kind.Numeral h, omega arith)
judged_some (Some kind.Name) text h = either_ok (λ token. (0 < token.1) × (token.1 ≤ length text)) (leb (length text) 32) (kind.Name, length text) fault.Name (token_some text kind.Name h, omega arith)
judged_some (Some kind.Sign) text h = (token_some text kind.Sign h, omega arith)
judged_some (Some kind.Word) text h = (token_some text kind.Word h, omega arith)

pub judged_within : (bytes : List ℕ) (n : ℕ) → n ≤ length bytes → IfOk (judged (kind_of (take n bytes)) (take n bytes)) (λ token. (0 < token.1) × (token.1 ≤ length bytes))
judged_within bytes n within =
    IfOk-weaker (judged (kind_of (take n bytes)) (take n bytes)) (λ token. (0 < token.1) × (token.1 ≤ length (take n bytes))) (λ token. (0 < token.1) × (token.1 ≤ length bytes))
    (λ token fits. (fits.0, omega (arith, fits.1, length-take-le n bytes within)))
    (judged_some (kind_of (take n bytes)) (take n bytes) refl)

-- a numeral's fault, and that it has none
large : (b : Bool) (value : ℕ) → cond b (Some value) None ≡ None → b ≡ false
large true value e = absurd cc
large false value e = refl

small : (b : Bool) (value found : ℕ) → cond b (Some value) None ≡ Some found → b ≡ true
small true value found e = refl
small false value found e = absurd cc

pub numeral_large : (text : List ℕ) → kind_of text ≡ Some kind.Numeral → numeral_value text ≡ None → judged (kind_of text) text ≡ Err fault.Number
numeral_large text h none =
    ap (λ k. judged k text) h ∙ ap (λ b. cond b (Ok (kind.Numeral, length text)) (Err fault.Number)) (large (leb (value_of text) 255) (value_of text) (sym (numeral_small text h) ∙ none))

pub numeral_good : (text : List ℕ) (value : ℕ) → kind_of text ≡ Some kind.Numeral → numeral_value text ≡ Some value → judged (kind_of text) text ≡ Ok (kind.Numeral, length text)
numeral_good text value h some =
    ap (λ k. judged k text) h ∙ ap (λ b. cond b (Ok (kind.Numeral, length text)) (Err fault.Number)) (small (leb (value_of text) 255) (value_of text) value (sym (numeral_small text h) ∙ some))
