-- Facts on classes of bytes, and what the first byte of a text says of its kind.
use Rattle.std.proofs.Common.{◌≡◌, ℕ, ◌<◌, ◌≤◌, Bool, true, false, cond, eqb, leb, not, ◌&&◌, ◌||◌, List, [], ◌∷◌, length, Some, None, refl, sym, subst, ◌∙◌, arith, inl, inr, ◌⊎◌, ⊎_elim}
use Rattle.std.specs.Prelude.{is_some}
use Rattle.std.specs.List.{list_any, list_all}
use Rattle.std.specs.Str.{bytes_eq}
use Rattle.std.proofs.lemmas.Bool.{and_parts, and_left, and_right, or_cases, or_from, or_left, or_right, leb-true, lt-leb, false_from_ne_true, both_ways}
use Rattle.std.proofs.lemmas.Slice.Eq.{bytes_eq-Decides}
use Rattle.occ_lex.specs.declared.token.TokenKind.TheVariants as kind
use Rattle.occ_lex.specs.Spelling.{is_between, is_letter, is_digit, is_name_byte, reserved_words, signs, is_reserved, is_sign, is_name, is_numeral, kind_of}
use Rattle.occ_lex.specs.Printed.{begins}

between_is : (low high byte : ℕ) → is_between low high byte ≡ true → (low ≤ byte) × (byte ≤ high)
between_is low high byte h =
    let parts = and_parts (leb low byte) (leb byte high) h in
    (leb-true low byte parts.0, leb-true byte high parts.1)

above_between : (low high byte : ℕ) → high < byte → is_between low high byte ≡ false
above_between low high byte h = and_right (leb low byte) (leb byte high) (lt-leb byte high h)

pub letter_is : (byte : ℕ) → is_letter byte ≡ true → ((65 ≤ byte) × (byte ≤ 90)) ⊎ ((97 ≤ byte) × (byte ≤ 122))
letter_is byte h = ⊎_elim
    (λ (low : is_between 65 90 byte ≡ true). inl (between_is 65 90 byte low))
    (λ (high : is_between 97 122 byte ≡ true). inr (between_is 97 122 byte high))
    (or_cases (is_between 65 90 byte) (is_between 97 122 byte) h)

pub digit_is : (byte : ℕ) → is_digit byte ≡ true → (48 ≤ byte) × (byte ≤ 57)
digit_is byte h = between_is 48 57 byte h

pub letter_above : (byte : ℕ) → is_letter byte ≡ true → 57 < byte
letter_above byte h = ⊎_elim
    (λ (low : (65 ≤ byte) × (byte ≤ 90)). omega (arith, low.0))
    (λ (high : (97 ≤ byte) × (byte ≤ 122)). omega (arith, high.0))
    (letter_is byte h)

pub letter_no_digit : (byte : ℕ) → is_letter byte ≡ true → is_digit byte ≡ false
letter_no_digit byte h = above_between 48 57 byte (letter_above byte h)

pub digit_no_letter : (byte : ℕ) → is_digit byte ≡ true → is_letter byte ≡ false
digit_no_letter byte h = false_from_ne_true (is_letter byte) (λ l. both_ways (is_digit byte) (letter_no_digit byte l) h)

pub letter_name_byte : (byte : ℕ) → is_letter byte ≡ true → is_name_byte byte ≡ true
letter_name_byte byte h = or_left (is_letter byte) (is_digit byte || eqb byte 46) h

pub digit_name_byte : (byte : ℕ) → is_digit byte ≡ true → is_name_byte byte ≡ true
digit_name_byte byte h = or_right (is_letter byte) (is_digit byte || eqb byte 46) (or_left (is_digit byte) (eqb byte 46) h)

-- a test of each text of a table holds of a text in it
pub in_table : (test : List ℕ → Bool) (table : List (List ℕ)) (text : List ℕ) → list_all test table ≡ true → list_any (bytes_eq text) table ≡ true → test text ≡ true
in_table test [] text all there = absurd (both_ways true (sym there) refl)
in_table test (entry ∷ table) text all there =
    let parts = and_parts (test entry) (list_all test table) all in
    ⊎_elim
    (λ (here : bytes_eq text entry ≡ true). subst (λ t. test t ≡ true) (sym ((bytes_eq-Decides text entry).0 here)) parts.0)
    (λ (later : list_any (bytes_eq text) table ≡ true). in_table test table text parts.1 later)
    (or_cases (bytes_eq text entry) (list_any (bytes_eq text) table) there)

-- a reserved word is spelled as a name
pub reserved_name : (text : List ℕ) → is_reserved text ≡ true → is_name text ≡ true
unfolding is_reserved is_name
reserved_name text h = in_table is_name reserved_words text refl h

-- no sign begins as a name or a numeral does
begins_no_name : List ℕ → Bool
begins_no_name text = not (begins is_name_byte text)

sign_begins : (text : List ℕ) → is_sign text ≡ true → begins_no_name text ≡ true
unfolding is_sign begins_no_name
sign_begins text h = in_table begins_no_name signs text refl h

not_is : (b : Bool) → not b ≡ true → b ≡ false
not_is true h = sym h
not_is false h = refl

pub sign_first : (byte : ℕ) (rest : List ℕ) → is_sign (byte ∷ rest) ≡ true → is_name_byte byte ≡ false
unfolding begins_no_name
sign_first byte rest h = not_is (is_name_byte byte) (sign_begins (byte ∷ rest) h)

pub no_sign : (byte : ℕ) (rest : List ℕ) → is_name_byte byte ≡ true → is_sign (byte ∷ rest) ≡ false
no_sign byte rest h = false_from_ne_true (is_sign (byte ∷ rest)) (λ s. both_ways (is_name_byte byte) (sign_first byte rest s) h)

-- a sign has one byte or two
is_short : List ℕ → Bool
is_short text = leb (length text) 2

pub sign_short : (text : List ℕ) → is_sign text ≡ true → length text ≤ 2
unfolding is_sign is_short
sign_short text h = leb-true (length text) 2 (in_table is_short signs text refl h)

pub no_long_sign : (text : List ℕ) → 2 < length text → is_sign text ≡ false
no_long_sign text h = false_from_ne_true (is_sign text) (λ s. absurd (omega (arith, sign_short text s)))

some_word : (reserved named numeral sign : Bool)
    → is_some (cond reserved (Some kind.Word) (cond named (Some kind.Name) (cond numeral (Some kind.Numeral) (cond sign (Some kind.Sign) None)))) ≡ (reserved || (named || (numeral || sign)))
some_word true named numeral sign = refl
some_word false true numeral sign = refl
some_word false false true sign = refl
some_word false false false true = refl
some_word false false false false = refl

-- what is a token is of one of the four kinds
pub kind_some : (text : List ℕ) → is_some (kind_of text) ≡ (is_reserved text || (is_name text || (is_numeral text || is_sign text)))
unfolding kind_of
kind_some text = some_word (is_reserved text) (is_name text) (is_numeral text) (is_sign text)

-- which of four tests decides, where the others fail
or_second : (a b c d : Bool) → (a ≡ true → b ≡ true) → c ≡ false → d ≡ false → (a || (b || (c || d))) ≡ b
or_second true b c d h p q = sym (h refl)
or_second false true c d h p q = refl
or_second false false c d h p q = or_from c d p q

or_third : (a b c d : Bool) → (a ≡ true → b ≡ true) → b ≡ false → d ≡ false → (a || (b || (c || d))) ≡ c
or_third true b c d h p q = absurd (both_ways b p (h refl))
or_third false true c d h p q = absurd (both_ways true p refl)
or_third false false true d h p q = refl
or_third false false false d h p q = q

or_fourth : (a b c d : Bool) → (a ≡ true → b ≡ true) → b ≡ false → c ≡ false → (a || (b || (c || d))) ≡ d
or_fourth true b c d h p q = absurd (both_ways b p (h refl))
or_fourth false true c d h p q = absurd (both_ways true p refl)
or_fourth false false true d h p q = absurd (both_ways true q refl)
or_fourth false false false d h p q = refl

-- no name begins with anything but a letter, no numeral with anything but a digit
no_name : (byte : ℕ) (rest : List ℕ) → is_letter byte ≡ false → is_name (byte ∷ rest) ≡ false
unfolding is_name
no_name byte rest h = and_left (is_letter byte) (list_all is_name_byte rest) h

no_numeral : (byte : ℕ) (rest : List ℕ) → is_digit byte ≡ false → is_numeral (byte ∷ rest) ≡ false
unfolding is_numeral
no_numeral byte rest h = and_left (is_digit byte) (list_all is_digit rest) h

and_rest : (a b : Bool) → a ≡ true → (a && b) ≡ b
and_rest true b h = refl
and_rest false b h = absurd (both_ways true (sym h) refl)

name_rest : (byte : ℕ) (rest : List ℕ) → is_letter byte ≡ true → is_name (byte ∷ rest) ≡ list_all is_name_byte rest
unfolding is_name
name_rest byte rest h = and_rest (is_letter byte) (list_all is_name_byte rest) h

numeral_rest : (byte : ℕ) (rest : List ℕ) → is_digit byte ≡ true → is_numeral (byte ∷ rest) ≡ list_all is_digit rest
unfolding is_numeral
numeral_rest byte rest h = and_rest (is_digit byte) (list_all is_digit rest) h

-- by its first byte a text is a token where its other bytes pass a test
pub kind_letter : (byte : ℕ) (rest : List ℕ) → is_letter byte ≡ true → is_some (kind_of (byte ∷ rest)) ≡ list_all is_name_byte rest
kind_letter byte rest h =
    let text = byte ∷ rest in
    kind_some text
    ∙ or_second (is_reserved text) (is_name text) (is_numeral text) (is_sign text) (reserved_name text) (no_numeral byte rest (letter_no_digit byte h)) (no_sign byte rest (letter_name_byte byte h))
    ∙ name_rest byte rest h

pub kind_digit : (byte : ℕ) (rest : List ℕ) → is_digit byte ≡ true → is_some (kind_of (byte ∷ rest)) ≡ list_all is_digit rest
kind_digit byte rest h =
    let text = byte ∷ rest in
    kind_some text
    ∙ or_third (is_reserved text) (is_name text) (is_numeral text) (is_sign text) (reserved_name text) (no_name byte rest (digit_no_letter byte h)) (no_sign byte rest (digit_name_byte byte h))
    ∙ numeral_rest byte rest h

pub kind_other : (byte : ℕ) (rest : List ℕ) → is_letter byte ≡ false → is_digit byte ≡ false → is_some (kind_of (byte ∷ rest)) ≡ is_sign (byte ∷ rest)
kind_other byte rest l d =
    let text = byte ∷ rest in
    kind_some text
    ∙ or_fourth (is_reserved text) (is_name text) (is_numeral text) (is_sign text) (reserved_name text) (no_name byte rest l) (no_numeral byte rest d)

-- no bytes are no token
pub kind_nil : kind_of [] ≡ None
unfolding kind_of is_reserved is_name is_numeral is_sign
kind_nil = refl
