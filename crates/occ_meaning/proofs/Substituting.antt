-- An expression in which variables are replaced has the value that it has after the assignment.
use Rattle.occ_syntax.specs.occ_base.declared.width.Width.{Width}
use Rattle.occ_meaning.proofs.Facts.{agreed, and_three, at_itself, clash, false_not_true, if_false, if_true}
use Rattle.occ_meaning.proofs.Typing.{bits_of_type}
use Rattle.occ_meaning.specs.Substitution.{NamesNone, substituted, value_for}
use Rattle.occ_syntax.specs.Eval.{applied, bits_in, bits_of_exp, eval, keeps_width}
use Rattle.occ_syntax.specs.Meaning.{assigned}
use Rattle.occ_syntax.specs.Names.{is_in, names, some_names}
use Rattle.occ_syntax.specs.Scopes.{Environment, Values, variable_width}
use Rattle.occ_syntax.specs.Tree.{Exp, complement, negation, numeral, operation, truth, variable}
use Rattle.occ_syntax.specs.Types.{agree, if_truth_value, if_word, pairs_kept, type_of, type_of_two}
use Rattle.std.proofs.Common.{Bool, List, Some, [], ap, false, if◌then◌else◌, inl, inr, not, refl, subst, sym, true, ℕ, ◌-◌, ◌==◌, ◌^◌, ◌∙◌, ◌∷◌, ◌≡◌}
use Rattle.std.proofs.lemmas.Bool.{cases_Bool, ne_eqb, or_cases, or_from, or_left, or_parts, or_right}
use Rattle.std.proofs.lemmas.Bool.Decides.{eqb_tells}

pair_types : (Γ : Environment) (x : ℕ) (xs : List ℕ) (e : Exp) (es : List Exp) → pairs_kept Γ (x ∷ xs) (e ∷ es) ≡ true
    → ((w : Width) × (variable_width Γ x ≡ Some w) × (type_of Γ e ≡ Some w)) × (pairs_kept Γ xs es ≡ true)
pair_types Γ x xs e es h =
    let k = and_three (agree (variable_width Γ x) (type_of Γ e)) (not (is_in xs x)) (pairs_kept Γ xs es) h in (agreed (variable_width Γ x) (type_of Γ e) k.0, k.2)

pub value_type : (Γ : Environment) (xs : List ℕ) (es : List Exp) → pairs_kept Γ xs es ≡ true → (y : ℕ)
    → type_of Γ (value_for xs es y) ≡ variable_width Γ y
value_type Γ [] [] h y = refl
value_type Γ [] (e ∷ es) h y = refl
value_type Γ (x ∷ xs) [] h y = refl
value_type Γ (x ∷ xs) (e ∷ es) h y =
    let k = pair_types Γ x xs e es h in
    elim (eqb_tells y x) [
      | inl i ↦ ap (type_of Γ) (if_true (y == x) e (value_for xs es y) i.0) ∙ (k.0.2 ∙ (sym k.0.1 ∙ ap (variable_width Γ) (sym i.1)))
      | inr i ↦ ap (type_of Γ) (if_false (y == x) e (value_for xs es y) i.0) ∙ value_type Γ xs es k.1 y
    ]

pub value_bits : (Γ : Environment) (xs : List ℕ) (es : List Exp) → pairs_kept Γ xs es ≡ true → (y : ℕ)
    → bits_of_exp Γ (value_for xs es y) ≡ bits_of_exp Γ (variable y)
value_bits Γ [] [] h y = refl
value_bits Γ [] (e ∷ es) h y = refl
value_bits Γ (x ∷ xs) [] h y = refl
value_bits Γ (x ∷ xs) (e ∷ es) h y =
    let k = pair_types Γ x xs e es h in
    elim (eqb_tells y x) [
      | inl i ↦ ap (bits_of_exp Γ) (if_true (y == x) e (value_for xs es y) i.0) ∙ (bits_of_type Γ e k.0.0 k.0.2 ∙ (ap bits_in (sym k.0.1) ∙ ap (λ z. bits_in (variable_width Γ z)) (sym i.1)))
      | inr i ↦ ap (bits_of_exp Γ) (if_false (y == x) e (value_for xs es y) i.0) ∙ value_bits Γ xs es k.1 y
    ]

pub value_assigned : (Γ : Environment) (s : Values) (xs : List ℕ) (es : List Exp) (y : ℕ) → eval Γ (value_for xs es y) s ≡ assigned xs es Γ s y
value_assigned Γ s [] es y = refl
value_assigned Γ s (x ∷ xs) [] y = refl
value_assigned Γ s (x ∷ xs) (e ∷ es) y = elim (cases_Bool (y == x)) [
  | inl i ↦ ap (λ z. eval Γ z s) (if_true (y == x) e (value_for xs es y) i) ∙ sym (if_true (y == x) (eval Γ e s) (assigned xs es Γ s y) i)
  | inr i ↦ ap (λ z. eval Γ z s) (if_false (y == x) e (value_for xs es y) i) ∙ (value_assigned Γ s xs es y ∙ sym (if_false (y == x) (eval Γ e s) (assigned xs es Γ s y) i))
]

pub substituted_type : (Γ : Environment) (xs : List ℕ) (es : List Exp) → pairs_kept Γ xs es ≡ true → (e : Exp)
    → type_of Γ (substituted xs es e) ≡ type_of Γ e
substituted_type Γ xs es h (variable y) = value_type Γ xs es h y
substituted_type Γ xs es h (numeral bits value) = refl
substituted_type Γ xs es h (truth b) = refl
substituted_type Γ xs es h (negation e) = ap if_truth_value (substituted_type Γ xs es h e)
substituted_type Γ xs es h (complement e) = ap if_word (substituted_type Γ xs es h e)
substituted_type Γ xs es h (operation op left right) =
    ap (λ a. type_of_two op a (type_of Γ (substituted xs es right))) (substituted_type Γ xs es h left) ∙ ap (λ b. type_of_two op (type_of Γ left) b) (substituted_type Γ xs es h right)

pub substituted_bits : (Γ : Environment) (xs : List ℕ) (es : List Exp) → pairs_kept Γ xs es ≡ true → (e : Exp)
    → bits_of_exp Γ (substituted xs es e) ≡ bits_of_exp Γ e
substituted_bits Γ xs es h (variable y) = value_bits Γ xs es h y
substituted_bits Γ xs es h (numeral bits value) = refl
substituted_bits Γ xs es h (truth b) = refl
substituted_bits Γ xs es h (negation e) = refl
substituted_bits Γ xs es h (complement e) = substituted_bits Γ xs es h e
substituted_bits Γ xs es h (operation op left right) = ap (λ n. if keeps_width op then n else 1) (substituted_bits Γ xs es h left)

pub substituted_value : (Γ : Environment) (s : Values) (xs : List ℕ) (es : List Exp) → pairs_kept Γ xs es ≡ true → (e : Exp)
    → eval Γ (substituted xs es e) s ≡ eval Γ e (assigned xs es Γ s)
substituted_value Γ s xs es h (variable y) = value_assigned Γ s xs es y
substituted_value Γ s xs es h (numeral bits value) = refl
substituted_value Γ s xs es h (truth b) = refl
substituted_value Γ s xs es h (negation e) = ap (λ n. 1 - n) (substituted_value Γ s xs es h e)
substituted_value Γ s xs es h (complement e) =
    ap (λ n. 2 ^ n - 1 - eval Γ (substituted xs es e) s) (substituted_bits Γ xs es h e) ∙ ap (λ n. 2 ^ bits_of_exp Γ e - 1 - n) (substituted_value Γ s xs es h e)
substituted_value Γ s xs es h (operation op left right) =
    ap (λ n. applied op n (eval Γ (substituted xs es left) s) (eval Γ (substituted xs es right) s)) (substituted_bits Γ xs es h left)
    ∙ (ap (λ n. applied op (bits_of_exp Γ left) n (eval Γ (substituted xs es right) s)) (substituted_value Γ s xs es h left)
    ∙ ap (λ n. applied op (bits_of_exp Γ left) (eval Γ left (assigned xs es Γ s)) n) (substituted_value Γ s xs es h right))

-- ---- which names are left

value_names : (xs : List ℕ) (es : List Exp) (x y : ℕ) → (x == y) ≡ false → some_names es x ≡ false → names (value_for xs es y) x ≡ false
value_names [] es x y off k = off
value_names (z ∷ xs) [] x y off k = off
value_names (z ∷ xs) (e ∷ es) x y off k = choice (y == z) e (value_for xs es y) (or_parts (names e x) (some_names es x) k).0 (value_names xs es x y off (or_parts (names e x) (some_names es x) k).1)
  where
    choice : (b : Bool) (a c : Exp) → names a x ≡ false → names c x ≡ false → names (if b then a else c) x ≡ false
    choice true a c h i = h
    choice false a c h i = i

-- a name that stands neither in the expression nor in those put in doesn't come in
pub substituted_names : (xs : List ℕ) (es : List Exp) (x : ℕ) → some_names es x ≡ false → (e : Exp) → names e x ≡ false
    → names (substituted xs es e) x ≡ false
substituted_names xs es x k (variable y) h = value_names xs es x y h k
substituted_names xs es x k (numeral bits value) h = refl
substituted_names xs es x k (truth b) h = refl
substituted_names xs es x k (negation e) h = substituted_names xs es x k e h
substituted_names xs es x k (complement e) h = substituted_names xs es x k e h
substituted_names xs es x k (operation op left right) h =
    let j = or_parts (names left x) (names right x) h in or_from (names (substituted xs es left) x) (names (substituted xs es right) x) (substituted_names xs es x k left j.0) (substituted_names xs es x k right j.1)

value_gone : (Γ : Environment) (xs : List ℕ) (es : List Exp) → pairs_kept Γ xs es ≡ true → (x : ℕ) → is_in xs x ≡ true
    → some_names es x ≡ false → (y : ℕ) → names (value_for xs es y) x ≡ false
value_gone Γ [] es t x h k y = false_not_true h
value_gone Γ (z ∷ xs) [] t x h k y = false_not_true t
value_gone Γ (z ∷ xs) (e ∷ es) t x h k y =
    let j = or_parts (names e x) (some_names es x) k in
    let P : Exp → Type 0 = λ r. names r x ≡ false in
    elim (eqb_tells y z) [
      | inl i ↦ subst P (sym (if_true (y == z) e (value_for xs es y) i.0)) j.0
      | inr i ↦ subst P (sym (if_false (y == z) e (value_for xs es y) i.0))
          (elim (eqb_tells x z) [
            | inl same ↦ value_names xs es x y (ne_eqb x y (λ eq. i.1 (sym eq ∙ same.1))) j.1
            | inr other ↦ value_gone Γ xs es (pair_types Γ z xs e es t).1 x (elim (or_cases (x == z) (is_in xs x) h) [ inl r ↦ clash (x == z) r other.0 | inr r ↦ r ]) j.1 y
          ])
    ]

-- a variable that is replaced is gone where no expression put in names it
pub substituted_gone : (Γ : Environment) (xs : List ℕ) (es : List Exp) → pairs_kept Γ xs es ≡ true → (x : ℕ) → is_in xs x ≡ true
    → some_names es x ≡ false → (e : Exp) → names (substituted xs es e) x ≡ false
substituted_gone Γ xs es t x h k (variable y) = value_gone Γ xs es t x h k y
substituted_gone Γ xs es t x h k (numeral bits value) = refl
substituted_gone Γ xs es t x h k (truth b) = refl
substituted_gone Γ xs es t x h k (negation e) = substituted_gone Γ xs es t x h k e
substituted_gone Γ xs es t x h k (complement e) = substituted_gone Γ xs es t x h k e
substituted_gone Γ xs es t x h k (operation op left right) =
    or_from (names (substituted xs es left) x) (names (substituted xs es right) x) (substituted_gone Γ xs es t x h k left) (substituted_gone Γ xs es t x h k right)

value_same : (xs : List ℕ) (es : List Exp) (y : ℕ) → is_in xs y ≡ false → value_for xs es y ≡ variable y
value_same [] es y h = refl
value_same (x ∷ xs) [] y h = refl
value_same (x ∷ xs) (e ∷ es) y h = let k = or_parts (y == x) (is_in xs y) h in if_false (y == x) e (value_for xs es y) k.0 ∙ value_same xs es y k.1

pub nothing_substituted : (xs : List ℕ) (es : List Exp) (e : Exp) → NamesNone e xs → substituted xs es e ≡ e
nothing_substituted xs es (variable y) h = value_same xs es y (h y (at_itself y))
nothing_substituted xs es (numeral bits value) h = refl
nothing_substituted xs es (truth b) h = refl
nothing_substituted xs es (negation e) h = ap negation (nothing_substituted xs es e h)
nothing_substituted xs es (complement e) h = ap complement (nothing_substituted xs es e h)
nothing_substituted xs es (operation op left right) h =
    ap (λ a. operation op a (substituted xs es right)) (nothing_substituted xs es left (λ x k. h x (or_left (names left x) (names right x) k)))
    ∙ ap (λ b. operation op left b) (nothing_substituted xs es right (λ x k. h x (or_right (names left x) (names right x) k)))
