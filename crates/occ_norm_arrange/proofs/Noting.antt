-- Names as they are collected in a list, and lists that have none in common.
use Rattle.std.proofs.Common.{◌≡◌, ◌≤◌, ◌<◌, ◌+◌, ◌==◌, ◌||◌, ◌++◌, ◌⊎◌, inl, inr, ℕ, Bool, true, false, List, [], ◌∷◌, drop, get_or, length, refl, sym, ap, ◌∙◌, subst, ⊎_elim}
use Rattle.std.specs.List.{list_any}
use Rattle.std.proofs.lemmas.Bool.{cases_Bool, eqb-true, false≢true, or_from, or_parts}
use Rattle.std.proofs.lemmas.List.{at_drop_all, at_drop_more}
use Rattle.occ_syntax.specs.occ_base.declared.names.Name.{Name}
use Rattle.occ_meaning.proofs.Facts.{clash, if_false, if_true}
use Rattle.occ_names.specs.Mentions.{called}
use Rattle.occ_names.specs.Once.{same_number, with_one}
use Rattle.occ_syntax.specs.Names.{is_in}
use Rattle.occ_syntax.specs.View.{numbers}
use Rattle.occ_norm_arrange.specs.Notes.{Notes}

-- ---- what is noted so far, where g is what is left of f

pub record Opened (before : List ℕ) (f : ℕ → Bool) (now : List ℕ) (g : ℕ → Bool) : Type 0 where
  pub kept : (x : ℕ) → is_in now x ≡ false → is_in before x ≡ false
  pub left : (x : ℕ) → is_in now x ≡ false → g x ≡ false → f x ≡ false

pub opened_first : (before : List ℕ) (f : ℕ → Bool) → Opened before f before f
opened_first before f = record { kept = λ x h. h; left = λ x h k. k }

pub opened_next : (before : List ℕ) (f : ℕ → Bool) (now : List ℕ) (g : ℕ → Bool) (later : List ℕ) (h r : ℕ → Bool) → Opened before f now g → Notes now h later
    → ((x : ℕ) → g x ≡ (h x || r x)) → Opened before f later r
opened_next before f now g later h r o n e = record {
  kept = λ x k. o.kept x (n.kept x k);
  left = λ x k l. o.left x (n.kept x k) (e x ∙ or_from (h x) (r x) (n.noted x k) l);
}

pub opened_done : (before : List ℕ) (f : ℕ → Bool) (now : List ℕ) (g : ℕ → Bool) → Opened before f now g → ((x : ℕ) → g x ≡ false) → Notes before f now
opened_done before f now g o e = record { kept = o.kept; noted = λ x k. o.left x k (e x) }

pub opened_last : (before : List ℕ) (f : ℕ → Bool) (now : List ℕ) (g : ℕ → Bool) (later : List ℕ) → Opened before f now g → Notes now g later → Notes before f later
opened_last before f now g later o n = record {
  kept = λ x k. o.kept x (n.kept x k);
  noted = λ x k. o.left x (n.kept x k) (n.noted x k);
}

-- ---- one name

in_two : (xs : List ℕ) (n x : ℕ) → is_in (xs ++ n ∷ []) x ≡ false → (is_in xs x ≡ false) × ((x == n) ≡ false)
in_two [] n x h = (refl, (or_parts (x == n) false h).0)
in_two (y ∷ xs) n x h =
    let j = or_parts (x == y) (is_in (xs ++ n ∷ []) x) h in
    let k = in_two xs n x j.1 in (or_from (x == y) (is_in xs x) j.0 k.0, k.1)

is_other : (xs : List ℕ) (n x : ℕ) → is_in xs n ≡ true → is_in xs x ≡ false → (x == n) ≡ false
is_other xs n x h k = ⊎_elim
    (λ (e : (x == n) ≡ true). clash (is_in xs n) h (ap (is_in xs) (sym (eqb-true x n e)) ∙ k))
    (λ (e : (x == n) ≡ false). e)
    (cases_Bool (x == n))

one_noted : (xs : List ℕ) (n x : ℕ) → is_in (with_one same_number xs n) x ≡ false → (is_in xs x ≡ false) × ((x == n) ≡ false)
one_noted xs n x h = ⊎_elim
    (λ (e : is_in xs n ≡ true). (let k = sym (ap (λ ys. is_in ys x) (if_true (is_in xs n) xs (xs ++ n ∷ []) e)) ∙ h in (k, is_other xs n x e k)))
    (λ (e : is_in xs n ≡ false). in_two xs n x (sym (ap (λ ys. is_in ys x) (if_false (is_in xs n) xs (xs ++ n ∷ []) e)) ∙ h))
    (cases_Bool (is_in xs n))

pub notes_one : (before : List ℕ) (n : ℕ) (now : List ℕ) → now ≡ with_one same_number before n → Notes before (λ x. x == n) now
notes_one before n now e = subst (λ xs. Notes before (λ x. x == n) xs) (sym e) (record {
  kept = λ x h. (one_noted before n x h).0;
  noted = λ x h. (one_noted before n x h).1;
})

-- ---- what is left of a list of names

pub next_name : (ns : List Name) (i : ℕ) → i < length ns → (x : ℕ) → is_in (numbers (drop i ns)) x ≡ (x == (get_or ns i (called 0)).0 || is_in (numbers (drop (i + 1) ns)) x)
next_name ns i h x = at_drop_more (λ ms. is_in (numbers ms) x) ns i (called 0) h

pub no_name : (ns : List Name) (i : ℕ) → length ns ≤ i → (x : ℕ) → is_in (numbers (drop i ns)) x ≡ false
no_name ns i h x = at_drop_all (λ ms. is_in (numbers ms) x) ns i h

-- ---- names that aren't among others

pub none_among : (names : List Name) (others : List ℕ) → list_any (λ (n : Name). is_in others n.0) names ≡ false → (x : ℕ) → is_in (numbers names) x ≡ true → is_in others x ≡ false
none_among [] others h x k = absurd (false≢true k)
none_among (n ∷ names) others h x k =
    let parted = or_parts (is_in others n.0) (list_any (λ (m : Name). is_in others m.0) names) h in
    ⊎_elim
    (λ (e : (x == n.0) ≡ true). ap (λ y. is_in others y) (eqb-true x n.0 e) ∙ parted.0)
    (λ (e : (x == n.0) ≡ false). none_among names others parted.1 x (sym (ap (λ b. b || is_in (numbers names) x) e) ∙ k))
    (cases_Bool (x == n.0))

-- the same of what the names stand for
pub apart_from : (names : List Name) (others : List ℕ) (f : ℕ → Bool) → ((x : ℕ) → is_in (numbers names) x ≡ f x) → list_any (λ (n : Name). is_in others n.0) names ≡ false
    → (x : ℕ) → (is_in others x ≡ false) ⊎ (f x ≡ false)
apart_from names others f are h x = ⊎_elim
    (λ (e : f x ≡ true). inl (none_among names others h x (are x ∙ e)))
    (λ (e : f x ≡ false). inr e)
    (cases_Bool (f x))

-- names that stand for what f holds for are noted
pub notes_of : (before after : List ℕ) (f g : ℕ → Bool) → ((x : ℕ) → f x ≡ g x) → Notes before f after → Notes before g after
notes_of before after f g e n = record { kept = n.kept; noted = λ x h. sym (e x) ∙ n.noted x h }
