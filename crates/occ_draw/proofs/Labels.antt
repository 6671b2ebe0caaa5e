-- A label is shown as it was given.
use Rattle.std.proofs.Common.{◌≡◌, ◌==◌, ◌||◌, ℕ, false, List, [], ◌∷◌, ◌++◌, Some, inl, inr, refl, sym, ap, ◌∙◌, subst, append_assoc}
use Rattle.std.proofs.lemmas.Bool.{cases_eq, cond-false, ne_eqb, or_from}
use Rattle.std.specs.List.{flat_map}
use Rattle.std.specs.Prelude.{◌⊎◌}
use Rattle.occ_draw.specs.Strings.{escaped, shown, with_front}

abbrev IsShown : ℕ → List ℕ → Type 0
IsShown c text = shown false (escaped c ++ text) ≡ with_front c (shown false text)

-- a character that stands for itself
plain : (c : ℕ) (text : List ℕ) → (c ≡ 34 → ⊥) → (c ≡ 92 → ⊥) → (c ≡ 10 → ⊥) → IsShown c text
unfolding shown
plain c text quote slash feed =
    let a : (c == 34) ≡ false = ne_eqb c 34 quote in
    let b : (c == 92) ≡ false = ne_eqb c 92 slash in
    let d : (c == 10) ≡ false = ne_eqb c 10 feed in
    let bare : escaped c ≡ c ∷ [] = cond-false (c == 34 || c == 92) _ _ (or_from _ _ a b) ∙ cond-false (c == 10) _ _ d in
    ap (λ front. shown false (front ++ text)) bare ∙ cond-false (c == 34) _ _ a ∙ cond-false (c == 92) _ _ b

-- a character is shown as it was given
one : (c : ℕ) (text : List ℕ) → IsShown c text
unfolding shown
one c text = by_quote (cases_eq c 34)
  where
    by_feed : (c ≡ 34 → ⊥) → (c ≡ 92 → ⊥) → (c ≡ 10) ⊎ (c ≡ 10 → ⊥) → IsShown c text
    by_feed quote slash (inl e) = subst (λ d. IsShown d text) (sym e) refl
    by_feed quote slash (inr feed) = plain c text quote slash feed

    by_slash : (c ≡ 34 → ⊥) → (c ≡ 92) ⊎ (c ≡ 92 → ⊥) → IsShown c text
    by_slash quote (inl e) = subst (λ d. IsShown d text) (sym e) refl
    by_slash quote (inr slash) = by_feed quote slash (cases_eq c 10)

    by_quote : (c ≡ 34) ⊎ (c ≡ 34 → ⊥) → IsShown c text
    by_quote (inl e) = subst (λ d. IsShown d text) (sym e) refl
    by_quote (inr quote) = by_slash quote (cases_eq c 92)

pub whole : (label rest : List ℕ) → shown false (flat_map escaped label ++ 34 ∷ rest) ≡ Some (label, rest)
unfolding shown
whole [] rest = refl
whole (c ∷ label) rest =
    ap (shown false) (append_assoc (escaped c) (flat_map escaped label) (34 ∷ rest)) ∙ one c (flat_map escaped label ++ 34 ∷ rest) ∙ ap (with_front c) (whole label rest)
