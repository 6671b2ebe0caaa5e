-- Lines are read the same where all their names stand in the table already.
use Rattle.std.proofs.Common.{◌≡◌, ◌⊎◌, inl, inr, ℕ, ◌+◌, ◌<◌, ◌≤◌, Bool, true, false, not, cond, List, [], ◌∷◌, ◌++◌, length, refl, sym, ap, subst, ◌∙◌, arith, length-append}
use Rattle.std.specs.List.{position_or_len}
use Rattle.std.specs.Str.{bytes_eq}
use Rattle.std.proofs.lemmas.Slice.Eq.{bytes_eq-Decides}
use Rattle.std.proofs.lemmas.Bool.{cases_lt}
use Rattle.occ_syntax.specs.occ_base.Names.{place_of, with_text}
use Rattle.occ_syntax.proofs.from_base.Naming.{place-le, with_new, with_there}
use Rattle.occ_script_lines.specs.occ_lex.declared.token.Line.{Line}
use Rattle.occ_script_lines.specs.occ_lex.declared.token.Token.{Token}
use Rattle.occ_script_lines.specs.occ_lex.declared.token.TokenKind.{TokenKind}
use Rattle.occ_script_lines.specs.occ_lex.declared.token.TokenKind.TheVariants as kind
use Rattle.occ_script_lines.specs.occ_lex.Token.{text_of}
use Rattle.occ_script_lines.specs.occ_lex.declared.symbol.Symbol.TheVariants as symbol
use Rattle.occ_script_lines.specs.occ_lex.Symbols.{Extends, names_with, rows_of, symbol_of, symbols_of, with_names, with_names_of_all}
use Rattle.occ_script_lines.proofs.from_lex.Interned.{extends_all, extends_names, extends_trans}

-- a place in front of others
place_front : (p : List ℕ → Bool) (xs ys : List (List ℕ)) → position_or_len p xs < length xs → position_or_len p (xs ++ ys) ≡ position_or_len p xs
place_front p [] ys h = absurd (omega (arith, h))
place_front p (x ∷ xs) ys h = at (place_front p xs ys) (p x) refl h
  where
    at : (position_or_len p xs < length xs → position_or_len p (xs ++ ys) ≡ position_or_len p xs) → (b : Bool) → p x ≡ b
        → cond (not b) (1 + position_or_len p xs) 0 < length (x ∷ xs) → cond (not (p x)) (1 + position_or_len p (xs ++ ys)) 0 ≡ cond (not (p x)) (1 + position_or_len p xs) 0
    at later true e h = ap (λ b. cond (not b) (1 + position_or_len p (xs ++ ys)) 0) e ∙ sym (ap (λ b. cond (not b) (1 + position_or_len p xs) 0) e)
    at later false e h = ap (λ n. cond (not (p x)) (1 + n) 0) (later (omega (arith, h)))

-- the place of a text that comes to the end
place_last : (p : List ℕ → Bool) (xs : List (List ℕ)) (t : List ℕ) → p t ≡ true → length xs ≤ position_or_len p xs → position_or_len p (xs ++ t ∷ []) ≡ position_or_len p xs
place_last p [] t e h = ap (λ b. cond (not b) (1 + 0) 0) e
place_last p (x ∷ xs) t e h = at (place_last p xs t e) (p x) refl h
  where
    at : (length xs ≤ position_or_len p xs → position_or_len p (xs ++ t ∷ []) ≡ position_or_len p xs) → (b : Bool) → p x ≡ b
        → length (x ∷ xs) ≤ cond (not b) (1 + position_or_len p xs) 0 → cond (not (p x)) (1 + position_or_len p (xs ++ t ∷ [])) 0 ≡ cond (not (p x)) (1 + position_or_len p xs) 0
    at later true e h = absurd (omega (arith, h))
    at later false e h = ap (λ n. cond (not (p x)) (1 + n) 0) (later (omega (arith, h)))

-- where a text has come into the table, its place is as before, and within
record IsKept (old new : List (List ℕ)) (t : List ℕ) : Type 0 where
  same : place_of new t ≡ place_of old t
  within : place_of new t < length new

come : (old : List (List ℕ)) (t : List ℕ) → IsKept old (with_text old t) t
come old t = at (cases_lt (place_of old t) (length old))
  where
    at : (place_of old t < length old) ⊎ (length old ≤ place_of old t) → IsKept old (with_text old t) t
    at (inl h) = let e = with_there old t h in record { same = ap (λ o. place_of o t) e; within = subst (λ o. place_of o t < length o) (sym e) h }
    at (inr h) =
        let e = with_new old t h in
        let equal : bytes_eq t t ≡ true = (bytes_eq-Decides t t).1 refl in
        let same : place_of (old ++ t ∷ []) t ≡ place_of old t = place_last (bytes_eq t) old t equal h in
        let long : length (old ++ t ∷ []) ≡ length old + 1 = length-append old (t ∷ []) in
        let small : place_of (old ++ t ∷ []) t < length (old ++ t ∷ []) = omega (arith, same, long, place-le old t) in
        record { same = ap (λ o. place_of o t) e ∙ same; within = subst (λ o. place_of o t < length o) (sym e) small }

-- and so it is in a longer table
kept : (old T : List (List ℕ)) (t : List ℕ) → Extends (with_text old t) T → IsKept old T t
kept old T t longer =
    let here = come old t in
    let new = with_text old t in
    let all = longer.0 in
    let same : place_of (new ++ all) t ≡ place_of new t = place_front (bytes_eq t) new all here.within in
    let small : place_of (new ++ all) t < length (new ++ all) = omega (arith, same, here.within, length-append new all) in
    record { same = ap (λ o. place_of o t) longer.1 ∙ same ∙ here.same; within = subst (λ o. place_of o t < length o) (sym longer.1) small }

record IsSameToken (old T : List (List ℕ)) (k : TokenKind) (t : List ℕ) : Type 0 where
  symbol : symbol_of T k t ≡ symbol_of old k t
  table : names_with T k t ≡ T

token_again : (old T : List (List ℕ)) (k : TokenKind) (t : List ℕ) → Extends (names_with old k t) T → IsSameToken old T k t
token_again old T kind.Name t h = let k = kept old T t h in record { symbol = ap (λ n. symbol.Name (record { 0 = n })) k.same; table = with_there T t k.within }
token_again old T kind.Numeral t h = record { symbol = refl; table = refl }
token_again old T kind.Word t h = record { symbol = refl; table = refl }
token_again old T kind.Sign t h = record { symbol = refl; table = refl }

record AreSameTokens (text : List ℕ) (old T : List (List ℕ)) (tokens : List Token) : Type 0 where
  symbols : symbols_of text T tokens ≡ symbols_of text old tokens
  table : with_names text T tokens ≡ T

tokens_again : (text : List ℕ) (old T : List (List ℕ)) (tokens : List Token) → Extends (with_names text old tokens) T → AreSameTokens text old T tokens
tokens_again text old T [] h = record { symbols = refl; table = refl }
tokens_again text old T (token ∷ tokens) h =
    let t = text_of token text in
    let next = names_with old token.kind t in
    let one = token_again old T token.kind t (extends_trans next (with_names text next tokens) T (extends_names text next tokens) h) in
    let later = tokens_again text next T tokens h in
    record {
      symbols = λ i. one.symbol i ∷ (ap (λ o. symbols_of text o tokens) one.table ∙ later.symbols) i;
      table = ap (λ o. with_names text o tokens) one.table ∙ later.table;
    }

-- lines whose names are all in a table are the same rows by it, and leave it as it is
pub record AreSameLines (text : List ℕ) (old T : List (List ℕ)) (lines : List Line) : Type 0 where
  pub rows : rows_of text T lines ≡ rows_of text old lines
  pub table : with_names_of_all text T lines ≡ T

pub lines_again : (text : List ℕ) (old T : List (List ℕ)) (lines : List Line) → Extends (with_names_of_all text old lines) T → AreSameLines text old T lines
lines_again text old T [] h = record { rows = refl; table = refl }
lines_again text old T (line ∷ lines) h =
    let next = with_names text old line.tokens in
    let one = tokens_again text old T line.tokens (extends_trans next (with_names_of_all text next lines) T (extends_all text next lines) h) in
    let later = lines_again text next T lines h in
    record {
      rows = λ i. record { number = line.number; level = line.level; symbols = one.symbols i } ∷ (ap (λ o. rows_of text o lines) one.table ∙ later.rows) i;
      table = ap (λ o. with_names_of_all text o lines) one.table ∙ later.table;
    }
