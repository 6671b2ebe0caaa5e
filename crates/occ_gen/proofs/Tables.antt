-- The table of names behind the words of lines, by words alone.
use Rattle.std.proofs.Common.{◌≡◌, ℕ, List, [], ◌∷◌, map, refl, ap, ◌∙◌}
use Rattle.occ_script.specs.occ_base.Names.{IsDistinct}
use Rattle.occ_script.proofs.from_base.Naming.{naming}
use Rattle.occ_script.specs.occ_lex.declared.token.Line.{Line}
use Rattle.occ_script.specs.occ_lex.declared.token.Token.{Token}
use Rattle.occ_script.specs.occ_lex.declared.token.TokenKind.{TokenKind}
use Rattle.occ_script.specs.occ_lex.declared.token.TokenKind.TheVariants as kind
use Rattle.occ_script.specs.occ_lex.Token.{text_of}
use Rattle.occ_script.specs.occ_lex.Words.{words_of}
use Rattle.occ_script.specs.occ_lex.Symbols.{names_with, with_names, with_names_of_all}

abbrev pub Word : Type 0
Word = TokenKind × List ℕ

abbrev pub with_words : List (List ℕ) → List Word → List (List ℕ)
with_words names [] = names
with_words names (w ∷ ws) = with_words (names_with names w.0 w.1) ws

abbrev pub with_all_words : List (List ℕ) → List (List Word) → List (List ℕ)
with_all_words names [] = names
with_all_words names (ws ∷ rest) = with_all_words (with_words names ws) rest

-- ---- they are those of a text's lines

module _ (text : List ℕ) where
  by_words : (names : List (List ℕ)) (ts : List Token) → with_names text names ts ≡ with_words names (map (λ token. (token.kind, text_of token text)) ts)
  by_words names [] = refl
  by_words names (t ∷ ts) = by_words (names_with names t.kind (text_of t text)) ts

  pub by_all_words : (names : List (List ℕ)) (lines : List Line) → with_names_of_all text names lines ≡ with_all_words names (map (words_of text) lines)
  by_all_words names [] = refl
  by_all_words names (line ∷ lines) =
      by_all_words (with_names text names line.tokens) lines
      ∙ ap (λ t. with_all_words t (map (words_of text) lines)) (by_words names line.tokens)

-- ---- each text stands once

one_distinct : (names : List (List ℕ)) (k : TokenKind) (text : List ℕ) → IsDistinct names → IsDistinct (names_with names k text)
one_distinct names kind.Name text h = (naming names text).distinct h
one_distinct names kind.Numeral text h = h
one_distinct names kind.Word text h = h
one_distinct names kind.Sign text h = h

words_distinct : (names : List (List ℕ)) (ws : List Word) → IsDistinct names → IsDistinct (with_words names ws)
words_distinct names [] h = h
words_distinct names (w ∷ ws) h = words_distinct (names_with names w.0 w.1) ws (one_distinct names w.0 w.1 h)

pub all_words_distinct : (names : List (List ℕ)) (all : List (List Word)) → IsDistinct names → IsDistinct (with_all_words names all)
all_words_distinct names [] h = h
all_words_distinct names (ws ∷ all) h = all_words_distinct (with_words names ws) all (words_distinct names ws h)
