use Rattle.std.specs.Prelude.{ℕ, ◌+◌, ◌-◌, List, take, drop}
use Rattle.occ_lex.specs.declared.token.Token.{Token}

-- the bytes of a token in its text
abbrev pub text_of : Token → List ℕ → List ℕ
text_of token text = take (token.last + 1 - token.first) (drop token.first text)
