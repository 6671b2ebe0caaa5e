-- The pairs of an assignment in the order of another list of its variables.
use Rattle.std.proofs.Common.{◌≡◌, ◌∙◌, ℕ, ◌==◌, true, false, ◌||◌, if◌then◌else◌, inl, inr, List, [], ◌∷◌, map, refl, sym, ap, subst}
use Rattle.std.proofs.lemmas.Bool.{or_cases, or_parts}
use Rattle.std.proofs.lemmas.Bool.Decides.{eqb_tells}
use Rattle.occ_renamed.specs.occ_base.declared.names.Name.{Name}
use Rattle.occ_derive_laws.proofs.Into.{others_kept}
use Rattle.occ_derive_laws.proofs.Pairs.{assign_pairs, first_pair}
use Rattle.occ_derive_laws.specs.Alike.{IsOnce}
use Rattle.occ_renamed.specs.occ_law.Lists.{PairsReordered, behind_pair, names_without, pairs_in_steps, same_pairs, two_pairs, values_without}
use Rattle.occ_renamed.proofs.from_meaning.Facts.{at_itself, clash, false_not_true, if_false, if_true, off_turned, true_not_false}
use Rattle.occ_renamed.specs.occ_meaning.Substitution.{value_for}
use Rattle.occ_renamed.specs.occ_syntax.declared.scope.Kind.{Kind}
use Rattle.occ_renamed.specs.occ_syntax.Names.{is_in}
use Rattle.occ_renamed.specs.occ_syntax.Scopes.{Environment, environment}
use Rattle.occ_renamed.specs.occ_syntax.Tree.{Exp, assign, variable}
use Rattle.occ_renamed.specs.occ_syntax.Types.{pairs_kept}
use Rattle.occ_renamed.specs.occ_syntax.Usage.{Keeps}

-- ---- the pairs for other variables

-- a variable that isn't there takes nothing away
none_away : (y : ℕ) (xs : List ℕ) → is_in xs y ≡ false → names_without y xs ≡ xs
none_away y [] h = refl
none_away y (x ∷ xs) h =
    let p = or_parts (y == x) (is_in xs y) h in
    if_false (y == x) (names_without y xs) (x ∷ names_without y xs) p.0 ∙ ap (λ l. x ∷ l) (none_away y xs p.1)

no_value_away : (Γ : Environment) (y : ℕ) (xs : List ℕ) (es : List Exp) → pairs_kept Γ xs es ≡ true → is_in xs y ≡ false → values_without y xs es ≡ es
no_value_away Γ y [] [] k h = refl
no_value_away Γ y [] (e ∷ es) k h = false_not_true k
no_value_away Γ y (x ∷ xs) [] k h = refl
no_value_away Γ y (x ∷ xs) (e ∷ es) k h =
    let p = or_parts (y == x) (is_in xs y) h in
    if_false (y == x) (values_without y xs es) (e ∷ values_without y xs es) p.0
    ∙ ap (λ l. e ∷ l) (no_value_away Γ y xs es (first_pair Γ x xs e es k).rest p.1)

-- the others are those that are not this one
others_in : (y z : ℕ) (xs : List ℕ) → (z == y) ≡ false → is_in (names_without y xs) z ≡ is_in xs z
others_in y z [] off = refl
others_in y z (x ∷ xs) off = elim (eqb_tells y x) [
  | inl i ↦ ap (λ l. is_in l z) (if_true (y == x) (names_without y xs) (x ∷ names_without y xs) i.0)
      ∙ (others_in y z xs off ∙ sym (ap (λ b. b || is_in xs z) (subst (λ v. (z == v) ≡ false) i.1 off)))
  | inr i ↦ ap (λ l. is_in l z) (if_false (y == x) (names_without y xs) (x ∷ names_without y xs) i.0) ∙ ap (λ b. (z == x) || b) (others_in y z xs off)
]

itself_out : (y : ℕ) (xs : List ℕ) → is_in (names_without y xs) y ≡ false
itself_out y [] = refl
itself_out y (x ∷ xs) = elim (eqb_tells y x) [
  | inl i ↦ ap (λ l. is_in l y) (if_true (y == x) (names_without y xs) (x ∷ names_without y xs) i.0) ∙ itself_out y xs
  | inr i ↦ ap (λ l. is_in l y) (if_false (y == x) (names_without y xs) (x ∷ names_without y xs) i.0)
      ∙ (ap (λ b. b || is_in (names_without y xs) y) i.0 ∙ itself_out y xs)
]

no_value : (xs : List ℕ) (z : ℕ) → value_for xs [] z ≡ variable z
no_value [] z = refl
no_value (x ∷ xs) z = refl

others_for : (y z : ℕ) (xs : List ℕ) (es : List Exp) → (z == y) ≡ false → value_for (names_without y xs) (values_without y xs es) z ≡ value_for xs es z
others_for y z [] es off = refl
others_for y z (x ∷ xs) [] off = no_value (names_without y (x ∷ xs)) z
others_for y z (x ∷ xs) (e ∷ es) off = elim (eqb_tells y x) [
  | inl i ↦ ap (λ l. value_for l (values_without y (x ∷ xs) (e ∷ es)) z) (if_true (y == x) (names_without y xs) (x ∷ names_without y xs) i.0)
      ∙ (ap (λ l. value_for (names_without y xs) l z) (if_true (y == x) (values_without y xs es) (e ∷ values_without y xs es) i.0)
      ∙ (others_for y z xs es off ∙ sym (if_false (z == x) e (value_for xs es z) (subst (λ v. (z == v) ≡ false) i.1 off))))
  | inr i ↦ ap (λ l. value_for l (values_without y (x ∷ xs) (e ∷ es)) z) (if_false (y == x) (names_without y xs) (x ∷ names_without y xs) i.0)
      ∙ (ap (λ l. value_for (x ∷ names_without y xs) l z) (if_false (y == x) (values_without y xs es) (e ∷ values_without y xs es) i.0)
      ∙ ap (λ v. if z == x then e else v) (others_for y z xs es off))
]

-- ---- one pair in front

in_front : (Γ : Environment) (xs : List ℕ) (es : List Exp) (y : ℕ) → pairs_kept Γ xs es ≡ true → is_in xs y ≡ true
    → PairsReordered xs es (y ∷ names_without y xs) (value_for xs es y ∷ values_without y xs es)
in_front Γ [] es y k h = false_not_true h
in_front Γ (x ∷ xs) [] y k h = false_not_true k
in_front Γ (x ∷ xs) (e ∷ es) y k h =
    let p = first_pair Γ x xs e es k in
    elim (eqb_tells y x) [
      | inl i ↦ first_itself x xs e es y i.0 i.1 (none_away x xs p.once) (no_value_away Γ x xs es p.rest p.once)
      | inr i ↦ behind_first x xs e es y i.0
          (in_front Γ xs es y p.rest (elim (or_cases (y == x) (is_in xs y) h) [ inl r ↦ clash (y == x) r i.0 | inr r ↦ r ]))
    ]
  where
    first_itself : (x : ℕ) (xs : List ℕ) (e : Exp) (es : List Exp) (y : ℕ) → (y == x) ≡ true → y ≡ x → names_without x xs ≡ xs → values_without x xs es ≡ es
        → PairsReordered (x ∷ xs) (e ∷ es) (y ∷ names_without y (x ∷ xs)) (value_for (x ∷ xs) (e ∷ es) y ∷ values_without y (x ∷ xs) (e ∷ es))
    first_itself x xs e es y t same n v =
        let ns : names_without y (x ∷ xs) ≡ xs = if_true (y == x) (names_without y xs) (x ∷ names_without y xs) t ∙ (ap (λ z. names_without z xs) same ∙ n) in
        let vs : values_without y (x ∷ xs) (e ∷ es) ≡ es =
        if_true (y == x) (values_without y xs es) (e ∷ values_without y xs es) t ∙ (ap (λ z. values_without z xs es) same ∙ v) in
        let first : value_for (x ∷ xs) (e ∷ es) y ≡ e = if_true (y == x) e (value_for xs es y) t in
        let at_names : PairsReordered (x ∷ xs) (e ∷ es) (y ∷ names_without y (x ∷ xs)) (e ∷ es) =
        subst (λ l. PairsReordered (x ∷ xs) (e ∷ es) l (e ∷ es)) (sym (ap (λ z. z ∷ names_without y (x ∷ xs)) same ∙ ap (λ l. x ∷ l) ns)) same_pairs in
        subst (λ l. PairsReordered (x ∷ xs) (e ∷ es) (y ∷ names_without y (x ∷ xs)) l)
        (sym (ap (λ f. f ∷ values_without y (x ∷ xs) (e ∷ es)) first ∙ ap (λ l. e ∷ l) vs)) at_names

    behind_first : (x : ℕ) (xs : List ℕ) (e : Exp) (es : List Exp) (y : ℕ) → (y == x) ≡ false
        → PairsReordered xs es (y ∷ names_without y xs) (value_for xs es y ∷ values_without y xs es)
        → PairsReordered (x ∷ xs) (e ∷ es) (y ∷ names_without y (x ∷ xs)) (value_for (x ∷ xs) (e ∷ es) y ∷ values_without y (x ∷ xs) (e ∷ es))
    behind_first x xs e es y t r =
        let steps : PairsReordered (x ∷ xs) (e ∷ es) (y ∷ x ∷ names_without y xs) (value_for xs es y ∷ e ∷ values_without y xs es) =
        pairs_in_steps (behind_pair r) two_pairs in
        subst (λ l. PairsReordered (x ∷ xs) (e ∷ es) (y ∷ names_without y (x ∷ xs)) l)
        (sym (ap (λ f. f ∷ values_without y (x ∷ xs) (e ∷ es)) (if_false (y == x) e (value_for xs es y) t)
        ∙ ap (λ l. value_for xs es y ∷ l) (if_false (y == x) (values_without y xs es) (e ∷ values_without y xs es) t)))
        (subst (λ l. PairsReordered (x ∷ xs) (e ∷ es) (y ∷ l) (value_for xs es y ∷ e ∷ values_without y xs es))
        (sym (if_false (y == x) (names_without y xs) (x ∷ names_without y xs) t)) steps)

-- ---- all of them

values_kept : (y : ℕ) (xs : List ℕ) (es : List Exp) (zs : List ℕ) → is_in zs y ≡ false
    → map (value_for (names_without y xs) (values_without y xs es)) zs ≡ map (value_for xs es) zs
values_kept y xs es [] h = refl
values_kept y xs es (z ∷ zs) h =
    let p = or_parts (y == z) (is_in zs y) h in
    ap (λ e. e ∷ map (value_for (names_without y xs) (values_without y xs es)) zs) (others_for y z xs es (off_turned y z p.0))
    ∙ ap (λ l. value_for xs es z ∷ l) (values_kept y xs es zs p.1)

members_left : (y : ℕ) (xs ys : List ℕ) → is_in ys y ≡ false → ((x : ℕ) → is_in xs x ≡ is_in (y ∷ ys) x) → (z : ℕ) → is_in (names_without y xs) z ≡ is_in ys z
members_left y xs ys out same z = elim (eqb_tells z y) [
  | inl i ↦ subst (λ v. is_in (names_without y xs) v ≡ is_in ys v) (sym i.1) (itself_out y xs ∙ sym out)
  | inr i ↦ others_in y z xs i.0 ∙ (same z ∙ ap (λ b. b || is_in ys z) i.0)
]

by_names : (Γ : Environment) (ys xs : List ℕ) (es : List Exp) → pairs_kept Γ xs es ≡ true → IsOnce ys → ((x : ℕ) → is_in xs x ≡ is_in ys x)
    → PairsReordered xs es ys (map (value_for xs es) ys)
by_names Γ [] [] [] k once same = same_pairs
by_names Γ [] [] (e ∷ es) k once same = false_not_true k
by_names Γ [] (x ∷ xs) es k once same = true_not_false (sym (ap (λ b. b || is_in xs x) (at_itself x)) ∙ same x)
by_names Γ (y ∷ ys) xs es k once same =
    let there : is_in xs y ≡ true = same y ∙ ap (λ b. b || is_in ys y) (at_itself y) in
    let rest = by_names Γ ys (names_without y xs) (values_without y xs es) (others_kept Γ y xs es k) once.1 (members_left y xs ys once.0 same) in
    pairs_in_steps (in_front Γ xs es y k there)
    (subst (λ l. PairsReordered (y ∷ names_without y xs) (value_for xs es y ∷ values_without y xs es) (y ∷ ys) (value_for xs es y ∷ l))
    (values_kept y xs es ys once.0) (behind_pair rest))

pub reordered_by : (S : List (Name × Kind)) (xs ys : List ℕ) (es : List Exp) → Keeps (environment S) (assign xs es) → IsOnce ys
    → ((x : ℕ) → is_in xs x ≡ is_in ys x) → PairsReordered xs es ys (map (value_for xs es) ys)
reordered_by S xs ys es k once same = by_names (environment S) ys xs es (assign_pairs (environment S) xs es k) once same
