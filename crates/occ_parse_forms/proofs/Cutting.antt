-- Symbols in front of a sign and behind it.
use Rattle.std.proofs.Common.{◌≡◌, ℕ, ◌<◌, ◌≤◌, ◌+◌, ◌-◌, true, false, List, [], ◌∷◌, ◌++◌, length, take, drop, get_or, Option, Some, None, refl, sym, ap, ◌∙◌, append_assoc}
use Rattle.std.proofs.lemmas.List.{append-nil, drop_all, drop_more, take_more, take_rest}
use Rattle.std.proofs.lemmas.Bool.{cond-true, cond-false}
use Rattle.occ_lex.specs.declared.symbol.Sign.{Sign}
use Rattle.occ_lex.specs.declared.symbol.Symbol.{Symbol}
use Rattle.occ_lex.specs.declared.symbol.Symbol.TheVariants as symbol
use Rattle.occ_parse_forms.specs.Symbols.{cut, same_symbol, then_read}

pub cut_found : (at : Sign) (s : Symbol) (rest : List Symbol) → same_symbol s (symbol.Sign at) ≡ true → cut at (s ∷ rest) ≡ Some ([], rest)
unfolding cut
cut_found at s rest h = cond-true (same_symbol s (symbol.Sign at)) _ _ h

pub cut_passes : (at : Sign) (s : Symbol) (rest : List Symbol) → same_symbol s (symbol.Sign at) ≡ false → cut at (s ∷ rest) ≡ then_read (cut at rest) (λ parts. Some (s ∷ parts.0, parts.1))
unfolding cut
cut_passes at s rest h = cond-false (same_symbol s (symbol.Sign at)) _ _ h

pub cut_nil : (at : Sign) → cut at [] ≡ None
unfolding cut
cut_nil at = refl

abbrev with_front : List Symbol → Option (List Symbol × List Symbol) → Option (List Symbol × List Symbol)
with_front front found = then_read found (λ parts. Some (front ++ parts.0, parts.1))

front_more : (front longer : List Symbol) (s : Symbol) (o : Option (List Symbol × List Symbol)) → longer ≡ front ++ s ∷ [] → with_front longer o ≡ with_front front (then_read o (λ parts. Some (s ∷ parts.0, parts.1)))
front_more front longer s None e = refl
front_more front longer s (Some parts) e = ap (λ f. Some (f ++ parts.0, parts.1)) e ∙ ap (λ f. Some (f, parts.1)) (append_assoc front (s ∷ []) parts.0)

pub here : (at : Sign) (xs : List Symbol) (i : ℕ) (d : Symbol) → i < length xs → same_symbol (get_or xs i d) (symbol.Sign at) ≡ true
    → with_front (take i xs) (cut at (drop i xs)) ≡ cut at xs → cut at xs ≡ Some (take i xs, take (length xs - (i + 1)) (drop (i + 1) xs))
here at xs i d lt h inv =
    sym inv ∙ ap (λ rest. with_front (take i xs) (cut at rest)) (drop_more xs i d lt) ∙ ap (with_front (take i xs)) (cut_found at (get_or xs i d) (drop (i + 1) xs) h)
    ∙ ap (λ f. Some (f, drop (i + 1) xs)) (append-nil (take i xs)) ∙ ap (λ r. Some (take i xs, r)) (sym (take_rest xs (i + 1)))

pub further_on : (at : Sign) (xs : List Symbol) (i : ℕ) (d : Symbol) → i < length xs → same_symbol (get_or xs i d) (symbol.Sign at) ≡ false
    → with_front (take i xs) (cut at (drop i xs)) ≡ cut at xs → with_front (take (i + 1) xs) (cut at (drop (i + 1) xs)) ≡ cut at xs
further_on at xs i d lt h inv =
    front_more (take i xs) (take (i + 1) xs) (get_or xs i d) (cut at (drop (i + 1) xs)) (take_more xs i d lt)
    ∙ ap (with_front (take i xs)) (sym (ap (cut at) (drop_more xs i d lt) ∙ cut_passes at (get_or xs i d) (drop (i + 1) xs) h)) ∙ inv

pub nowhere : (at : Sign) (xs : List Symbol) (i : ℕ) → length xs ≤ i → with_front (take i xs) (cut at (drop i xs)) ≡ cut at xs → cut at xs ≡ None
nowhere at xs i le inv = sym inv ∙ ap (λ rest. with_front (take i xs) (cut at rest)) (drop_all i xs le) ∙ ap (with_front (take i xs)) (cut_nil at)
