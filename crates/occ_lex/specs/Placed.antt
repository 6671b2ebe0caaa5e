use Rattle.std.specs.Prelude.{ℕ, ◌≡◌, ◌+◌, ◌<◌, ◌≤◌, IsTrue, List, [], ◌∷◌, length, Option, Some, IfSome, is_ok}
use Rattle.std.specs.List.{AllByRecursion}
use Rattle.occ_lex.specs.declared.fault.LineFault.{LineFault}
use Rattle.occ_lex.specs.declared.token.Line.{Line}
use Rattle.occ_lex.specs.declared.token.Token.{Token}
use Rattle.occ_lex.specs.Spelling.{kind_of}
use Rattle.occ_lex.specs.Token.{text_of}
use Rattle.occ_lex.specs.Tokens.{judged}

-- the bytes at a token's places lie in the text, and are one token of its kind without a fault
pub record IsTokenOf (text : List ℕ) (token : Token) : Type 0 where
  pub ordered : token.first ≤ token.last
  pub within : token.last < length text
  pub spelled : kind_of (text_of token text) ≡ Some token.kind
  pub good : IsTrue (is_ok (judged (Some token.kind) (text_of token text)))

-- a line has a token at least, and each is one of the text
pub record IsLineOf (text : List ℕ) (line : Line) : Type 0 where
  pub some : 0 < length line.tokens
  pub tokens : AllByRecursion (IsTokenOf text) line.tokens

-- the lines' numbers go up, from this one at the least
abbrev pub AreNumbered : ℕ → List Line → Type 0
AreNumbered least [] = Unit {0}
AreNumbered least (line ∷ lines) = (least ≤ line.number) × AreNumbered (line.number + 1) lines

-- lines of a text in order, in front of the line that has the fault
pub record IsReadingOf (text : List ℕ) (lines : List Line) (fault : Option (ℕ × LineFault)) : Type 0 where
  pub lines_of_text : AllByRecursion (IsLineOf text) lines
  pub numbered : AreNumbered 1 lines
  pub before_fault : IfSome fault (λ found. AllByRecursion (λ line. line.number < found.0) lines)
