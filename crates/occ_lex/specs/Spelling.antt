use Rattle.std.specs.Prelude.{ℕ, ◌+◌, ◌-◌, ◌*◌, Bool, false, ◌&&◌, ◌||◌, ◌==◌, nat_le, if◌then◌else◌, List, [], ◌∷◌, fold, Option, Some, None, codes}
use Rattle.std.specs.List.{list_any, list_all}
use Rattle.std.specs.Str.{bytes_eq}
use Rattle.occ_lex.specs.declared.token.TokenKind.{TokenKind}
use Rattle.occ_lex.specs.declared.token.TokenKind.TheVariants as kind

-- a byte from one to another, both included
abbrev pub is_between : ℕ → ℕ → ℕ → Bool
is_between low high byte = nat_le low byte && nat_le byte high

-- A to Z and a to z
abbrev pub is_letter : ℕ → Bool
is_letter byte = is_between 65 90 byte || is_between 97 122 byte

-- 0 to 9
abbrev pub is_digit : ℕ → Bool
is_digit byte = is_between 48 57 byte

-- a letter, a digit or a dot
abbrev pub is_name_byte : ℕ → Bool
is_name_byte byte = is_letter byte || (is_digit byte || byte == 46)

abbrev pub reserved_words : List (List ℕ)
reserved_words = codes "SKIP" ∷ codes "STOP" ∷ codes "SEQ" ∷ codes "PAR" ∷ codes "ALT" ∷ codes "IF" ∷ codes "FOR" ∷ codes "PROC" ∷ codes "CHAN"
    ∷ codes "OF" ∷ codes "TRUE" ∷ codes "FALSE" ∷ codes "AND" ∷ codes "OR" ∷ codes "NOT" ∷ codes "PLUS" ∷ codes "MINUS" ∷ codes "BOOL"
    ∷ codes "WORD1" ∷ codes "WORD2" ∷ codes "WORD3" ∷ codes "WORD4" ∷ codes "WORD5" ∷ codes "WORD6" ∷ codes "WORD7" ∷ codes "WORD8" ∷ []

-- the signs; 47 is a slash, 92 a backslash
abbrev pub signs : List (List ℕ)
signs = codes ":=" ∷ codes "<=" ∷ codes ">=" ∷ codes "<>" ∷ codes "><" ∷ (47 ∷ 92 ∷ []) ∷ (92 ∷ 47 ∷ []) ∷ codes "~" ∷ codes "&" ∷ codes "("
    ∷ codes ")" ∷ codes "[" ∷ codes "]" ∷ codes "," ∷ codes ":" ∷ codes "?" ∷ codes "!" ∷ codes "=" ∷ codes "<" ∷ codes ">" ∷ []

-- one of the reserved words
unfoldable pub is_reserved : List ℕ → Bool
is_reserved text = list_any (bytes_eq text) reserved_words

-- one of the signs
unfoldable pub is_sign : List ℕ → Bool
is_sign text = list_any (bytes_eq text) signs

-- a letter followed by letters, digits and dots
unfoldable pub is_name : List ℕ → Bool
is_name [] = false
is_name (byte ∷ rest) = is_letter byte && list_all is_name_byte rest

-- one decimal digit or more
unfoldable pub is_numeral : List ℕ → Bool
is_numeral [] = false
is_numeral (byte ∷ rest) = list_all is_digit (byte ∷ rest)

-- What a whole text is as one token. A reserved word isn't a name.
unfoldable pub kind_of : List ℕ → Option TokenKind
kind_of text = if is_reserved text then Some kind.Word
    else (if is_name text then Some kind.Name
    else (if is_numeral text then Some kind.Numeral
    else (if is_sign text then Some kind.Sign else None)))

-- the number that decimal digits write
abbrev pub value_of : List ℕ → ℕ
value_of digits = fold (λ value digit. 10 * value + (digit - 48)) 0 digits

-- the value of a numeral that has one of at most 255
unfoldable pub numeral_value : List ℕ → Option ℕ
numeral_value text = if is_numeral text && nat_le (value_of text) 255 then Some (value_of text) else None
