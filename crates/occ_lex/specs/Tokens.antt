use Rattle.std.specs.Prelude.{ℕ, zero, suc, ◌+◌, ◌-◌, ◌==◌, nat_le, if◌then◌else◌, List, [], ◌∷◌, length, take, Option, Some, None, is_some, Result, Ok, Err}
use Rattle.occ_lex.specs.declared.fault.LineFault.{LineFault}
use Rattle.occ_lex.specs.declared.fault.LineFault.TheVariants as fault
use Rattle.occ_lex.specs.declared.token.Token.{Token}
use Rattle.occ_lex.specs.declared.token.TokenKind.{TokenKind}
use Rattle.occ_lex.specs.declared.token.TokenKind.TheVariants as kind
use Rattle.occ_lex.specs.Spelling.{kind_of, value_of}

infixl 10 ◌>>=◌
abbrev pub ◌>>=◌ : {A B : Type 0} → Result A LineFault → (A → Result B LineFault) → Result B LineFault
(Ok x) >>= f = f x
(Err e) >>= f = Err e

-- the length of the longest token among the fronts of at most n bytes, 0 where none of them is a token
unfoldable pub longest_within : ℕ → List ℕ → ℕ
longest_within zero bytes = 0
longest_within (suc n) bytes = if is_some (kind_of (take (suc n) bytes)) then suc n else longest_within n bytes

-- the length of the longest token in front
unfoldable pub longest : List ℕ → ℕ
longest bytes = longest_within (length bytes) bytes

-- A token's kind and length, or its fault: a numeral is at most 255, and a name has at most 32 characters.
abbrev pub judged : Option TokenKind → List ℕ → Result (TokenKind × ℕ) LineFault
judged None text = Err fault.Char
judged (Some kind.Numeral) text = if nat_le (value_of text) 255 then Ok (kind.Numeral, length text) else Err fault.Number
judged (Some kind.Name) text = if nat_le (length text) 32 then Ok (kind.Name, length text) else Err fault.Name
judged (Some kind.Sign) text = Ok (kind.Sign, length text)
judged (Some kind.Word) text = Ok (kind.Word, length text)

-- the longest token in front
unfoldable pub first_token : List ℕ → Result (TokenKind × ℕ) LineFault
first_token bytes = judged (kind_of (take (longest bytes) bytes)) (take (longest bytes) bytes)

-- a token whose first byte is at a place
abbrev pub token_at : ℕ → TokenKind × ℕ → Token
token_at first token = record { kind = token.0; first = first; last = first + (token.1 - 1) }

-- The tokens of bytes of which the first stands at a place of the text, and so many belong to the token before.
-- Spaces stand between tokens.
unfoldable pub tokens : ℕ → ℕ → List ℕ → Result (List Token) LineFault
tokens place taken [] = Ok []
tokens place (suc taken) (byte ∷ bytes) = tokens (place + 1) taken bytes
tokens place zero (byte ∷ bytes) = if byte == 32 then tokens (place + 1) 0 bytes
    else (first_token (byte ∷ bytes) >>= λ token. tokens (place + 1) (token.1 - 1) bytes >>= λ others. Ok (token_at place token ∷ others))
