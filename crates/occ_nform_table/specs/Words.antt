-- Words of a line, and what each is read as.
use Rattle.std.specs.Prelude.{ℕ, ◌+◌, ◌-◌, ◌^◌, ◌≡◌, ◌==◌, Bool, true, false, not, ◌&&◌, ◌||◌, nat_lt, nat_le, if◌then◌else◌, List, [], ◌∷◌, ◌++◌, length, take, drop, position, Option, Some, None, codes}
use Rattle.std.specs.Str.{bytes_eq}
use Rattle.occ_lex.specs.Spelling.{is_numeral, value_of}
use Rattle.occ_lex.specs.Rows.{in_front}

-- what is read, and then what the next reading makes of it
abbrev pub then_read : {A B : Type 0} → Option A → (A → Option B) → Option B
then_read None next = None
then_read (Some x) next = next x

-- the one reading where it finds something, else the other
abbrev pub or_else : {A : Type 0} → Option A → Option A → Option A
or_else None other = other
or_else (Some x) other = Some x

-- what a call found, seen by view, is what is read
abbrev pub Finds : {A B : Type 0} → (A → B) → Option A → Option B → Type 0
Finds view None read = read ≡ None
Finds view (Some x) read = read ≡ Some (view x)

-- the bytes behind a front, and those before a back
unfoldable pub behind : List ℕ → List ℕ → Option (List ℕ)
behind front text = if bytes_eq (take (length front) text) front then Some (drop (length front) text) else None

unfoldable pub before : List ℕ → List ℕ → Option (List ℕ)
before back text = if bytes_eq (drop (length text - length back) text) back then Some (take (length text - length back) text) else None

-- the bytes between a front and a back
unfoldable pub between : List ℕ → List ℕ → List ℕ → Option (List ℕ)
between front back text = then_read (behind front text) (before back)

-- the bytes in front of the first of a byte, and those behind it
unfoldable pub cut : ℕ → List ℕ → Option (List ℕ × List ℕ)
cut byte text = then_read (position (λ b. b == byte) text) (λ i. Some (take i text, drop (i + 1) text))

-- the words between single spaces (32); a text without spaces is one word, also the empty one
unfoldable pub words : List ℕ → List (List ℕ)
words [] = [] ∷ []
words (b ∷ text) = if b == 32 then [] ∷ words text else in_front b (words text)

-- the items of a list that is written with single spaces between them
abbrev pub items_of : List ℕ → List (List ℕ)
items_of [] = []
items_of (b ∷ text) = words (b ∷ text)

-- what each word is read as, where each is read as something
unfoldable pub each : {A : Type 0} → (List ℕ → Option A) → List (List ℕ) → Option (List A)
each read [] = Some []
each read (word ∷ others) = then_read (read word) (λ x. then_read (each read others) (λ xs. Some (x ∷ xs)))

-- a 0 stands in front only of nothing
abbrev pub has_no_leading_zero : List ℕ → Bool
has_no_leading_zero [] = true
has_no_leading_zero (digit ∷ []) = true
has_no_leading_zero (digit ∷ next ∷ others) = not (digit == 48)

-- the number that a word writes in decimal without leading zeros
unfoldable pub number_of : List ℕ → Option ℕ
number_of word = if is_numeral word && has_no_leading_zero word then Some (value_of word) else None

abbrev pub at_most : ℕ → ℕ → Option ℕ
at_most most n = if nat_le n most then Some n else None

-- the same where the number is below 2 ^ 32
unfoldable pub small_number_of : List ℕ → Option ℕ
small_number_of word = then_read (number_of word) (at_most 4294967295)
