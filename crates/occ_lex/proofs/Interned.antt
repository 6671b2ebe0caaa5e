-- Tables that grow.
use Rattle.std.proofs.Common.{◌≡◌, ℕ, ◌<◌, ◌≤◌, List, [], ◌∷◌, ◌++◌, length, sym, ap, subst, ◌∙◌, arith, append_assoc, ⊎_elim}
use Rattle.std.specs.List.{AllByRecursion}
use Rattle.std.proofs.lemmas.Bool.{cases_lt}
use Rattle.std.proofs.lemmas.List.{append-nil, length-append}
use Rattle.occ_base.specs.Names.{place_of, with_text}
use Rattle.occ_base.proofs.Naming.{with_there, with_new, place-le}
use Rattle.occ_lex.specs.declared.token.Line.{Line}
use Rattle.occ_lex.specs.declared.token.Token.{Token}
use Rattle.occ_lex.specs.declared.token.TokenKind.{TokenKind}
use Rattle.occ_lex.specs.declared.token.TokenKind.TheVariants as kind
use Rattle.occ_lex.specs.Token.{text_of}
use Rattle.occ_lex.specs.declared.symbol.Symbol.{Symbol}
use Rattle.occ_lex.specs.declared.symbol.Symbol.TheVariants as symbol
use Rattle.occ_lex.specs.Symbols.{AreKnown, Extends, IsKnown, names_with, rows_of, symbol_of, symbols_of, with_names, with_names_of_all}

pub extends_same : (names : List (List ℕ)) → Extends names names
extends_same names = ([], sym (append-nil names))

pub extends_trans : (a b c : List (List ℕ)) → Extends a b → Extends b c → Extends a c
extends_trans a b c ab bc = (ab.0 ++ bc.0, bc.1 ∙ ap (λ xs. xs ++ bc.0) ab.1 ∙ append_assoc a ab.0 bc.0)

pub extends_eq : (a b : List (List ℕ)) → b ≡ a → Extends a b
extends_eq a b e = subst (Extends a) (sym e) (extends_same a)

pub extends_text : (names : List (List ℕ)) (text : List ℕ) → Extends names (with_text names text)
extends_text names text = ⊎_elim
    (λ (h : place_of names text < length names). extends_eq names (with_text names text) (with_there names text h))
    (λ (h : length names ≤ place_of names text). (text ∷ [], with_new names text h))
    (cases_lt (place_of names text) (length names))

pub extends_with : (names : List (List ℕ)) (k : TokenKind) (text : List ℕ) → Extends names (names_with names k text)
extends_with names kind.Name text = extends_text names text
extends_with names kind.Numeral text = extends_same names
extends_with names kind.Word text = extends_same names
extends_with names kind.Sign text = extends_same names

pub extends_names : (text : List ℕ) (names : List (List ℕ)) (tokens : List Token) → Extends names (with_names text names tokens)
extends_names text names [] = extends_same names
extends_names text names (token ∷ tokens) =
    let next = names_with names token.kind (text_of token text) in
    extends_trans names next (with_names text next tokens) (extends_with names token.kind (text_of token text)) (extends_names text next tokens)

pub extends_all : (text : List ℕ) (names : List (List ℕ)) (lines : List Line) → Extends names (with_names_of_all text names lines)
extends_all text names [] = extends_same names
extends_all text names (line ∷ lines) =
    let next = with_names text names line.tokens in
    extends_trans names next (with_names_of_all text next lines) (extends_names text names line.tokens) (extends_all text next lines)

-- ---- what is known stays known

pub longer : (old new : List (List ℕ)) → Extends old new → length old ≤ length new
longer old new e = omega (arith, ap length e.1, length-append old e.0)

known_later : (old new : List (List ℕ)) (s : Symbol) → length old ≤ length new → IsKnown old s → IsKnown new s
known_later old new (symbol.Name name) le h = omega (arith, le, h)
known_later old new (symbol.Numeral value) le h = h
known_later old new (symbol.Keyword word) le h = h
known_later old new (symbol.Sign sign) le h = h

all_known_later : (old new : List (List ℕ)) (ss : List Symbol) → length old ≤ length new → AllByRecursion (IsKnown old) ss → AllByRecursion (IsKnown new) ss
all_known_later old new [] le h = h
all_known_later old new (s ∷ ss) le h = (known_later old new s le h.0, all_known_later old new ss le h.1)

place_within : (names : List (List ℕ)) (text : List ℕ) → place_of names text < length (with_text names text)
place_within names text = ⊎_elim
    (λ (h : place_of names text < length names). omega (arith, h, ap length (with_there names text h)))
    (λ (h : length names ≤ place_of names text). omega (arith, place-le names text, ap length (with_new names text h), length-append names (text ∷ [])))
    (cases_lt (place_of names text) (length names))

symbol_known : (names : List (List ℕ)) (k : TokenKind) (text : List ℕ) → IsKnown (names_with names k text) (symbol_of names k text)
symbol_known names kind.Name text = place_within names text
symbol_known names kind.Numeral text = tt
symbol_known names kind.Word text = tt
symbol_known names kind.Sign text = tt

symbols_known : (text : List ℕ) (names : List (List ℕ)) (tokens : List Token) → AllByRecursion (IsKnown (with_names text names tokens)) (symbols_of text names tokens)
symbols_known text names [] = tt
symbols_known text names (token ∷ tokens) =
    let next = names_with names token.kind (text_of token text) in (
      known_later next (with_names text next tokens) (symbol_of names token.kind (text_of token text)) (longer next (with_names text next tokens) (extends_names text next tokens)) (symbol_known names token.kind (text_of token text)),
      symbols_known text next tokens,
    )

pub rows_known : (text : List ℕ) (names : List (List ℕ)) (lines : List Line) → AreKnown (with_names_of_all text names lines) (rows_of text names lines)
rows_known text names [] = tt
rows_known text names (line ∷ lines) =
    let next = with_names text names line.tokens in (
      all_known_later next (with_names_of_all text next lines) (symbols_of text names line.tokens) (longer next (with_names_of_all text next lines) (extends_all text next lines)) (symbols_known text names line.tokens),
      rows_known text next lines,
    )
