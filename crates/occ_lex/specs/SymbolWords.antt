-- The reserved words and signs of the language, and what each of them is.
use Rattle.std.specs.Prelude.{ℕ, if◌then◌else◌, List, [], ◌∷◌, Option, Some, None, codes}
use Rattle.std.specs.Str.{bytes_eq}
use Rattle.occ_base.specs.declared.width.Width.TheVariants as width
use Rattle.occ_lex.specs.declared.symbol.Keyword.{Keyword}
use Rattle.occ_lex.specs.declared.symbol.Keyword.TheVariants as word
use Rattle.occ_lex.specs.declared.symbol.Sign.{Sign}
use Rattle.occ_lex.specs.declared.symbol.Sign.TheVariants as sign

-- what the first entry with that text stands for
abbrev pub look_up : {E A : Type 0} → (E → List ℕ) → (E → A) → List E → List ℕ → Option A
look_up key value [] text = None
look_up key value (entry ∷ entries) text = if bytes_eq text (key entry) then Some (value entry) else look_up key value entries text

abbrev pub keywords : List (List ℕ × Keyword)
keywords = (codes "SKIP", word.Skip) ∷ (codes "STOP", word.Stop) ∷ (codes "SEQ", word.Seq) ∷ (codes "PAR", word.Par) ∷ (codes "ALT", word.Alt)
    ∷ (codes "IF", word.If) ∷ (codes "FOR", word.For) ∷ (codes "PROC", word.Proc) ∷ (codes "CHAN", word.Chan) ∷ (codes "OF", word.Of)
    ∷ (codes "TRUE", word.True) ∷ (codes "FALSE", word.False) ∷ (codes "AND", word.And) ∷ (codes "OR", word.Or) ∷ (codes "NOT", word.Not)
    ∷ (codes "PLUS", word.Plus) ∷ (codes "MINUS", word.Minus) ∷ (codes "BOOL", word.Width width.Bool)
    ∷ (codes "WORD1", word.Width (width.Word 1)) ∷ (codes "WORD2", word.Width (width.Word 2)) ∷ (codes "WORD3", word.Width (width.Word 3))
    ∷ (codes "WORD4", word.Width (width.Word 4)) ∷ (codes "WORD5", word.Width (width.Word 5)) ∷ (codes "WORD6", word.Width (width.Word 6))
    ∷ (codes "WORD7", word.Width (width.Word 7)) ∷ (codes "WORD8", word.Width (width.Word 8)) ∷ []

-- 47 is a slash, 92 a backslash
abbrev pub signs : List (List ℕ × Sign)
signs = (codes ":=", sign.Becomes) ∷ (codes "<=", sign.AtMost) ∷ (codes ">=", sign.AtLeast) ∷ (codes "<>", sign.Differ) ∷ (codes "><", sign.BitXor)
    ∷ (47 ∷ 92 ∷ [], sign.BitAnd) ∷ (92 ∷ 47 ∷ [], sign.BitOr) ∷ (codes "~", sign.Flip) ∷ (codes "&", sign.Ampersand) ∷ (codes "(", sign.Open)
    ∷ (codes ")", sign.Close) ∷ (codes "[", sign.OpenIndex) ∷ (codes "]", sign.CloseIndex) ∷ (codes ",", sign.Comma) ∷ (codes ":", sign.Colon)
    ∷ (codes "?", sign.Query) ∷ (codes "!", sign.Bang) ∷ (codes "=", sign.Equal) ∷ (codes "<", sign.Less) ∷ (codes ">", sign.Greater) ∷ []

-- the keyword that a text is, if it is one
unfoldable pub keyword_of : List ℕ → Option Keyword
keyword_of text = look_up (λ entry. entry.0) (λ entry. entry.1) keywords text

-- the sign that a text is, if it is one
unfoldable pub sign_of : List ℕ → Option Sign
sign_of text = look_up (λ entry. entry.0) (λ entry. entry.1) signs text
