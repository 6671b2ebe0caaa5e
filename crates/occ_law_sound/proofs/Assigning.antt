-- Assignments: of variables to themselves, in another order, one after another.
use Rattle.occ_law.specs.Lists.{PairsReordered, behind_pair, pairs_in_steps, same_pairs, two_pairs, variables}
use Rattle.occ_law.specs.Sequence.{AssignId, AssignJoin, AssignOrder, AssignPad, assign_id, assign_join, assign_order, assign_pad}
use Rattle.occ_law.proofs.from_meaning.Facts.{and_three, clash, false_not_true, if_false, if_true, off_turned}
use Rattle.occ_law.proofs.from_meaning.Frame.{assigned_off}
use Rattle.occ_law.proofs.from_meaning.OffValues.{swap_values, value_back}
use Rattle.occ_law.proofs.from_meaning.Substituting.{substituted_value}
use Rattle.occ_law.specs.occ_meaning.Parallel.{two}
use Rattle.occ_law.specs.occ_meaning.Substitution.{substituted}
use Rattle.occ_law.proofs.from_meaning.AtState.{alike_through, assigned_then, at_once_alike, same_at}
use Rattle.occ_law.specs.occ_syntax.Eval.{eval}
use Rattle.occ_law.specs.occ_syntax.Meaning.{assigned, meaning}
use Rattle.occ_law.specs.occ_syntax.Names.{is_in}
use Rattle.occ_law.specs.occ_syntax.Same.{SAME}
use Rattle.occ_law.specs.occ_syntax.Scopes.{Environment, Values, variable_width, with_value}
use Rattle.occ_law.specs.occ_syntax.Tree.{Exp, Tree, assign, seq, skip, variable}
use Rattle.occ_law.specs.occ_syntax.Types.{agree, is_pair, pairs_kept, type_of, types_kept}
use Rattle.std.proofs.Common.{Bool, List, [], ap, false, inl, inr, map, not, refl, sym, true, ℕ, ◌&&◌, ◌++◌, ◌==◌, ◌∙◌, ◌∷◌, ◌≡◌, ◌⊎◌, ◌||◌}
use Rattle.std.proofs.lemmas.Bool.{and_parts, cases_Bool, not-true, or_cases, or_from, or_parts}
use Rattle.std.proofs.lemmas.Bool.Decides.{eqb_tells}
use mathlib.Core.Path.{fun_ext}

-- an assignment is the same as one that puts the same values in place
assign_by : (Γ : Environment) (xs ys : List ℕ) (es fs : List Exp) → ((s : Values) → assigned xs es Γ s ≡ assigned ys fs Γ s)
    → SAME Γ (assign xs es) (assign ys fs)
assign_by Γ xs ys es fs h = same_at Γ (assign xs es) (assign ys fs) (λ s state. at_once_alike Γ s s (assigned xs es) (assigned ys fs) (h s))

assigned_themselves : (Γ : Environment) (s : Values) (xs : List ℕ) → assigned xs (variables xs) Γ s ≡ s
assigned_themselves Γ s [] = refl
assigned_themselves Γ s (x ∷ xs) = ap (λ r. with_value r x (s x)) (assigned_themselves Γ s xs) ∙ value_back s x

pub id_sound : (Γ : Environment) (ks : List ℕ) (l r : Tree) → AssignId ks l r → SAME Γ l r
id_sound Γ ks l r (assign_id xs) = same_at Γ (assign xs (variables xs)) skip (λ s state. at_once_alike Γ s s (assigned xs (variables xs)) (λ Δ u. u) (assigned_themselves Γ s xs))

-- the pairs of an assignment that keeps types
pub assign_kept : (Γ : Environment) (xs : List ℕ) (es : List Exp) → types_kept (assign xs es) Γ ≡ true → pairs_kept Γ xs es ≡ true
assign_kept Γ xs es h = (and_parts (is_pair xs) (pairs_kept Γ xs es) h).1

pub rest_kept : (Γ : Environment) (x : ℕ) (xs : List ℕ) (e : Exp) (es : List Exp) → pairs_kept Γ (x ∷ xs) (e ∷ es) ≡ true
    → (is_in xs x ≡ false) × (pairs_kept Γ xs es ≡ true)
rest_kept Γ x xs e es h =
    let k = and_three (agree (variable_width Γ x) (type_of Γ e)) (not (is_in xs x)) (pairs_kept Γ xs es) h in
    (not-true (is_in xs x) k.1, k.2)

-- ---- another order

-- no variable stands twice
abbrev AreApart : List ℕ → Type 0
AreApart [] = Unit {0}
AreApart (x ∷ xs) = (is_in xs x ≡ false) × AreApart xs

kept_apart : (Γ : Environment) (xs : List ℕ) (es : List Exp) → pairs_kept Γ xs es ≡ true → AreApart xs
kept_apart Γ [] es h = tt
kept_apart Γ (x ∷ xs) (e ∷ es) h = let k = rest_kept Γ x xs e es h in (k.0, kept_apart Γ xs es k.1)
kept_apart Γ (x ∷ xs) [] h = false_not_true h

reordered_out : (z : ℕ) (xs ys : List ℕ) (es fs : List Exp) → PairsReordered xs es ys fs → is_in xs z ≡ false → is_in ys z ≡ false
reordered_out z xs ys es fs same_pairs h = h
reordered_out z xs ys es fs (behind_pair {x = x} {e = e} {xs = us} {ys = vs} {es = ls} {fs = bs} k) h =
    let j = or_parts (z == x) (is_in us z) h in or_from (z == x) (is_in vs z) j.0 (reordered_out z us vs ls bs k j.1)
reordered_out z xs ys es fs (two_pairs {x = x} {y = y} {e = e} {f = f} {xs = us} {es = ls}) h =
    let j = or_parts (z == x) (z == y || is_in us z) h in
    let i = or_parts (z == y) (is_in us z) j.1 in
    or_from (z == y) (z == x || is_in us z) i.0 (or_from (z == x) (is_in us z) j.0 i.1)
reordered_out z xs ys es fs (pairs_in_steps {xs = us} {ys = vs} {zs = ws} {es = ls} {fs = bs} {hs = cs} k l) h =
    reordered_out z vs ws bs cs l (reordered_out z us vs ls bs k h)

reordered_apart : (xs ys : List ℕ) (es fs : List Exp) → PairsReordered xs es ys fs → AreApart xs → AreApart ys
reordered_apart xs ys es fs same_pairs h = h
reordered_apart xs ys es fs (behind_pair {x = x} {e = e} {xs = us} {ys = vs} {es = ls} {fs = bs} k) h = (reordered_out x us vs ls bs k h.0, reordered_apart us vs ls bs k h.1)
reordered_apart xs ys es fs (two_pairs {x = x} {y = y} {e = e} {f = f} {xs = us} {es = ls}) h =
    let j = or_parts (x == y) (is_in us x) h.0 in
    (or_from (y == x) (is_in us y) (off_turned x y j.0) h.1.0, (j.1, h.1.1))
reordered_apart xs ys es fs (pairs_in_steps {xs = us} {ys = vs} {zs = ws} {es = ls} {fs = bs} {hs = cs} k l) h =
    reordered_apart vs ws bs cs l (reordered_apart us vs ls bs k h)

reordered_values : (Γ : Environment) (s : Values) (xs ys : List ℕ) (es fs : List Exp) → PairsReordered xs es ys fs → AreApart xs
    → assigned xs es Γ s ≡ assigned ys fs Γ s
reordered_values Γ s xs ys es fs same_pairs h = refl
reordered_values Γ s xs ys es fs (behind_pair {x = x} {e = e} {xs = us} {ys = vs} {es = ls} {fs = bs} k) h = ap (λ u. with_value u x (eval Γ e s)) (reordered_values Γ s us vs ls bs k h.1)
reordered_values Γ s xs ys es fs (two_pairs {x = x} {y = y} {e = e} {f = f} {xs = us} {es = ls}) h =
    swap_values (assigned us ls Γ s) y (eval Γ f s) x (eval Γ e s) (off_turned x y (or_parts (x == y) (is_in us x) h.0).0)
reordered_values Γ s xs ys es fs (pairs_in_steps {xs = us} {ys = vs} {zs = ws} {es = ls} {fs = bs} {hs = cs} k l) h =
    reordered_values Γ s us vs ls bs k h ∙ reordered_values Γ s vs ws bs cs l (reordered_apart us vs ls bs k h)

pub order_sound : (Γ : Environment) (ks : List ℕ) (l r : Tree) → types_kept l Γ ≡ true → AssignOrder ks l r → SAME Γ l r
order_sound Γ ks l r h (assign_order xs ys es fs k) = assign_by Γ xs ys es fs (λ s. reordered_values Γ s xs ys es fs k (kept_apart Γ xs es (assign_kept Γ xs es h)))

-- ---- one pair more

assigned_padded : (Γ : Environment) (s : Values) (y : ℕ) (xs : List ℕ) (es : List Exp) → pairs_kept Γ xs es ≡ true
    → assigned (xs ++ (y ∷ [])) (es ++ (variable y ∷ [])) Γ s ≡ assigned xs es Γ s
assigned_padded Γ s y [] [] h = value_back s y
assigned_padded Γ s y (x ∷ xs) (e ∷ es) h = ap (λ r. with_value r x (eval Γ e s)) (assigned_padded Γ s y xs es (rest_kept Γ x xs e es h).1)
assigned_padded Γ s y [] (e ∷ es) h = false_not_true h
assigned_padded Γ s y (x ∷ xs) [] h = false_not_true h

pub pad_sound : (Γ : Environment) (ks : List ℕ) (l r : Tree) → types_kept l Γ ≡ true → AssignPad ks l r → SAME Γ l r
pad_sound Γ ks l r h (assign_pad xs es y k) =
    assign_by Γ xs (xs ++ (y ∷ [])) es (es ++ (variable y ∷ [])) (λ s. sym (assigned_padded Γ s y xs es (assign_kept Γ xs es h)))

-- ---- two assignments of the same variables

joined_at : (Γ : Environment) (s : Values) (xs : List ℕ) (es : List Exp) → pairs_kept Γ xs es ≡ true → (zs : List ℕ) (fs : List Exp)
    → pairs_kept Γ zs fs ≡ true → (y : ℕ) → (is_in zs y ≡ true) ⊎ (assigned xs es Γ s y ≡ s y)
    → assigned zs fs Γ (assigned xs es Γ s) y ≡ assigned zs (map (substituted xs es) fs) Γ s y
joined_at Γ s xs es h [] [] k y i = elim i [ inl j ↦ false_not_true j | inr j ↦ j ]
joined_at Γ s xs es h (z ∷ zs) (f ∷ fs) k y i = elim (eqb_tells y z) [
  | inl j ↦ if_true (y == z) (eval Γ f (assigned xs es Γ s)) (assigned zs fs Γ (assigned xs es Γ s) y) j.0
      ∙ (sym (substituted_value Γ s xs es h f)
      ∙ sym (if_true (y == z) (eval Γ (substituted xs es f) s) (assigned zs (map (substituted xs es) fs) Γ s y) j.0))
  | inr j ↦ if_false (y == z) (eval Γ f (assigned xs es Γ s)) (assigned zs fs Γ (assigned xs es Γ s) y) j.0
      ∙ (joined_at Γ s xs es h zs fs (rest_kept Γ z zs f fs k).1 y (later_place (y == z) (is_in zs y) (assigned xs es Γ s y) (s y) i j.0)
      ∙ sym (if_false (y == z) (eval Γ (substituted xs es f) s) (assigned zs (map (substituted xs es) fs) Γ s y) j.0))
]
  where
    later_place : (a b : Bool) (m n : ℕ) → ((a || b) ≡ true) ⊎ (m ≡ n) → a ≡ false → (b ≡ true) ⊎ (m ≡ n)
    later_place a b m n u v = elim u [ inl c ↦ elim (or_cases a b c) [ inl w ↦ clash a w v | inr w ↦ inl w ] | inr c ↦ inr c ]
joined_at Γ s xs es h [] (f ∷ fs) k y i = false_not_true k
joined_at Γ s xs es h (z ∷ zs) [] k y i = false_not_true k

assigned_joined : (Γ : Environment) (s : Values) (xs : List ℕ) (es fs : List Exp) → pairs_kept Γ xs es ≡ true → pairs_kept Γ xs fs ≡ true
    → assigned xs fs Γ (assigned xs es Γ s) ≡ assigned xs (map (substituted xs es) fs) Γ s
assigned_joined Γ s xs es fs h k = fun_ext (λ y. joined_at Γ s xs es h xs fs k y (elim (cases_Bool (is_in xs y)) [
  | inl i ↦ inl i
  | inr i ↦ inr (assigned_off Γ s y xs es i)
]))

pub join_sound : (Γ : Environment) (ks : List ℕ) (l r : Tree) → types_kept l Γ ≡ true → AssignJoin ks l r → SAME Γ l r
join_sound Γ ks l r h (assign_join xs es fs) =
    let k = and_parts (types_kept (assign xs es) Γ) (types_kept (assign xs fs) Γ && true) h in
    let j = and_parts (types_kept (assign xs fs) Γ) true k.1 in
    same_at Γ (seq (two (assign xs es) (assign xs fs))) (assign xs (map (substituted xs es) fs)) (λ s state.
    alike_through Γ s (assigned xs es Γ s) s (meaning (seq (two (assign xs es) (assign xs fs)))) (meaning (assign xs fs)) (meaning (assign xs (map (substituted xs es) fs)))
    (assigned_then Γ s xs es (assign xs fs))
    (at_once_alike Γ (assigned xs es Γ s) s (assigned xs fs) (assigned xs (map (substituted xs es) fs)) (assigned_joined Γ s xs es fs (assign_kept Γ xs es k.0) (assign_kept Γ xs fs j.0))))
