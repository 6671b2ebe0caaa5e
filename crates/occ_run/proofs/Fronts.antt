-- Loops that take items off the front of a list.
use Rattle.std.proofs.Common.{◌≡◌, ◌+◌, ◌<◌, ℕ, false, List, [], ◌∷◌, ◌++◌, map, length, get_or, ◌==◌, inl, inr, ap, sym, ◌∙◌, append_assoc, arith}
use Rattle.std.proofs.lemmas.List.{append-nil, map_push}
use Rattle.std.proofs.lemmas.List.FromFn.{map-range_with_len_more}
use Rattle.std.proofs.lemmas.Bool.Decides.{eqb_tells}
use Rattle.std.specs.List.{range_with_len}
use Rattle.occ_run_steps.specs.Control.{Control}
use Rattle.occ_run_steps.specs.Step.{Step, leaving}
use Rattle.occ_run.specs.declared.effect.Offer.{Offer}
use Rattle.occ_run.specs.Effects.{at_leaf, offered, seen_offers}
pub use Rattle.occ_run.proofs.MeetingFronts.{front_is, none_is}

-- two first items of a list are the same
pub same_first : {A : Type 0} (l : List A) (x y : A) → 0 < length l → x ≡ get_or l 0 x → y ≡ get_or l 0 y → x ≡ y
same_first [] x y h e f = absurd (omega (arith, h))
same_first (z ∷ l) x y h e f = e ∙ sym f

pub nothing_is : {A : Type 0} (l : List A) → length l ≡ 0 → l ≡ []
nothing_is l h = none_is l (omega arith)

-- a number that isn't 1 fails the test
pub not_one : (v e : ℕ) → v ≡ e → (v ≡ 1 → ⊥) → (e == 1) ≡ false
not_one v e same off = elim (eqb_tells e 1) [ inl k ↦ absurd (off (same ∙ k.1)) | inr k ↦ k.0 ]

-- some items more are there
pub some_more : {A : Type 0} (xs ys ms ds es whole : List A) → ys ≡ xs ++ ms → ds ≡ ms ++ es → xs ++ ds ≡ whole → ys ++ es ≡ whole
some_more xs ys ms ds es whole e f g = ap (λ zs. zs ++ es) e ∙ append_assoc xs ms es ∙ sym (ap (λ zs. xs ++ zs) f) ∙ g

-- none is to come
pub none_more : {A : Type 0} (xs ds whole : List A) → ds ≡ [] → xs ++ ds ≡ whole → xs ≡ whole
none_more xs ds whole e g = sym (append-nil xs) ∙ sym (ap (λ zs. xs ++ zs) e) ∙ g

-- the step of one number more is pushed
pub one_further : (xs ys : List Offer) (x : Offer) (f : ℕ → Step Control) (n : ℕ) → ys ≡ xs ++ x ∷ [] → leaving at_leaf (offered x) ≡ f n
    → map (leaving at_leaf) (seen_offers xs) ≡ map f (range_with_len 0 n) → map (leaving at_leaf) (seen_offers ys) ≡ map f (range_with_len 0 (n + 1))
one_further xs ys x f n e h g =
    ap (map (leaving at_leaf)) (ap seen_offers e ∙ map_push offered xs x) ∙ map_push (leaving at_leaf) (seen_offers xs) (offered x)
    ∙ ap (λ zs. zs ++ leaving at_leaf (offered x) ∷ []) g ∙ ap (λ z. map f (range_with_len 0 n) ++ z ∷ []) h ∙ sym (map-range_with_len_more f 0 n n (omega arith))
