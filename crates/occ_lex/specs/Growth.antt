-- Tables of names that grow by names of the language.
use Rattle.std.specs.Prelude.{ℕ, ◌≡◌, ◌≤◌, List, [], ◌∷◌, length, Some, decimal}
use Rattle.std.specs.List.{AllByRecursion}
use Rattle.occ_base.specs.Names.{with_text}
use Rattle.occ_lex.specs.declared.token.TokenKind.TheVariants as token
use Rattle.occ_lex.specs.Spelling.{kind_of}

-- a text that is a name of the language: no reserved word, and of at most 32 bytes
pub record IsNameText (text : List ℕ) : Type 0 where
  pub kind : kind_of text ≡ Some token.Name
  pub short : length text ≤ 32

-- a table with these texts, one after the other
unfoldable pub with_texts : List (List ℕ) → List (List ℕ) → List (List ℕ)
with_texts names [] = names
with_texts names (text ∷ texts) = with_texts (with_text names text) texts

-- A table of names is another one with names of the language behind it.
pub record GrowsByNames (old new : List (List ℕ)) : Type 0 where
  pub texts : List (List ℕ)
  pub named : AllByRecursion IsNameText texts
  pub new_is : new ≡ with_texts old texts

-- a letter, a dot (46) and a number
abbrev pub numbered_text : ℕ → ℕ → List ℕ
numbered_text letter number = letter ∷ 46 ∷ decimal number
