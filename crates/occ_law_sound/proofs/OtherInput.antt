-- Under a declared variable that nothing else names, an input may go into it first.
use Rattle.occ_law.specs.Lists.{all_branches}
use Rattle.occ_law.specs.Scope.{VarAltInput, var_alt_input}
use Rattle.occ_law_sound.proofs.Opened.{same_but_result, up_to, variable_up_to}
use Rattle.occ_law.proofs.from_meaning.Facts.{and_four, both, off_turned, value_at, value_off}
use Rattle.occ_law.proofs.from_meaning.Members.{Among, first_branch}
use Rattle.occ_law.proofs.from_meaning.OffValues.{Ignores, part_ignores, swap_values, value_again, value_back}
use Rattle.occ_law.specs.occ_meaning.Foundation.{with_result}
use Rattle.occ_law.specs.occ_meaning.Parallel.{two}
use Rattle.occ_law.proofs.from_meaning.AtGuards.{quiet_along}
use Rattle.occ_law.proofs.from_meaning.AtState.{assigned_then, same_at}
use Rattle.occ_law.proofs.from_meaning.Covering.{CoversEach, IsPart, alt_covered, covers_all, covers_and, covers_member, part_later, part_left, part_refused, part_right, part_through, refused_all}
use Rattle.occ_law.specs.occ_syntax.Eval.{is_true}
use Rattle.occ_law.specs.occ_syntax.Meaning.{IsQuiet, Meaning, Outcome, Taken, assigned, at_event, guards, meaning, refusing, stable}
use Rattle.occ_law.specs.occ_syntax.Same.{SAME}
use Rattle.occ_law.specs.occ_syntax.Scopes.{Environment, EventSet, Trace, Values, with_name, with_value}
use Rattle.occ_law.specs.occ_syntax.Tree.{Branches, Exp, Tree, Waiting, alt, and_branch, assign, declare, input, no_branch, seq, variable}
use Rattle.occ_law.specs.occ_syntax.Types.{branches_kept, can_declare, is_condition, types_kept, waiting_kept}
use Rattle.occ_law.specs.occ_syntax.declared.scope.Kind.TheVariants.{Var}
use Rattle.std.proofs.Common.{List, [], ap, false, inl, refl, subst, sym, true, ℕ, ◌==◌, ◌∙◌, ◌∷◌, ◌≡◌}
use Rattle.std.proofs.lemmas.Bool.{and_parts}

pub branches_behind_kept : (Γ : Environment) (gs hs : Branches) → branches_kept (all_branches gs hs) Γ ≡ true → branches_kept hs Γ ≡ true
branches_behind_kept Γ no_branch hs h = h
branches_behind_kept Γ (and_branch b w p gs) hs h =
    branches_behind_kept Γ gs hs (and_four (is_condition Γ b) (waiting_kept Γ w) (types_kept p Γ) (branches_kept (all_branches gs hs) Γ) h).3

-- the process behind the other input
abbrev passed_on : ℕ → ℕ → Tree → Tree
passed_on x z p = seq (two (assign (x ∷ []) (variable z ∷ [])) p)

-- what an input into x leads to, from what an input into z does
passed : (Γ : Environment) (r : Values) (x z v : ℕ) → (x == z) ≡ false
    → assigned (x ∷ []) (variable z ∷ []) Γ (with_value r z v) ≡ with_value (with_value r x v) z v
passed Γ r x z v off =
    ap (λ n. with_value (with_value r z v) x n) (value_at r z v) ∙ swap_values r z v x v (off_turned x z off)

-- the two lists of branches
abbrev straight : Branches → Branches → Exp → ℕ → ℕ → Tree → Branches
straight gs hs b c x p = all_branches gs (and_branch b (input c x) p hs)

abbrev around : Branches → Branches → Exp → ℕ → ℕ → ℕ → Tree → Branches
around gs hs b c x z p = all_branches gs (and_branch b (input c z) (passed_on x z p) hs)

-- a branch in the middle, and what stands before and behind it
middle : (gs hs : Branches) (b : Exp) (w : Waiting) (p : Tree) → Among b w p (all_branches gs (and_branch b w p hs))
middle gs hs b w p = (part_right gs (and_branch b w p hs)).there b w p first_branch

after_middle : (gs hs : Branches) (b : Exp) (w : Waiting) (p : Tree) → IsPart hs (all_branches gs (and_branch b w p hs))
after_middle gs hs b w p = part_through hs (and_branch b w p hs) (all_branches gs (and_branch b w p hs)) (part_later b w p hs) (part_right gs (and_branch b w p hs))

-- branches of an ALT are covered up to a variable
covers_up_to : (Γ : Environment) (r : Values) (z : ℕ) (bs ds : Branches) → IsPart bs ds → CoversEach Γ r (up_to z (meaning (alt ds))) bs
covers_up_to Γ r z bs ds h = record {
  each = λ e w p i. record { covered = λ j t u a o k d. (o, (λ n. refl), (covers_member Γ r ds e w p (h.there e w p i)).covered j t u a o k d) };
}

input_refused : (Γ : Environment) (r : Values) (c x y : ℕ) (X : EventSet) → IsQuiet Γ r (input c x) X → IsQuiet Γ r (input c y) X
input_refused Γ r c x y X q =
    quiet_along Γ r r (input c x) (input c y) (λ i. absurd (cc)) (λ e u a. (with_value r x a.0, (a.0, a.1, a.2, refl))) X q

other_refused : (Γ : Environment) (r : Values) (b : Exp) (c x y : ℕ) (p q : Tree) (gs hs : Branches) (X : EventSet)
    → (guards (all_branches gs (and_branch b (input c x) p hs))).refuses Γ r X → (guards (all_branches gs (and_branch b (input c y) q hs))).refuses Γ r X
other_refused Γ r b c x y p q gs hs X d =
    let tail : Branches = and_branch b (input c x) p hs in
    let k = part_refused Γ r tail (all_branches gs tail) (part_right gs tail) X d in
    refused_all Γ r gs (and_branch b (input c y) q hs) X (part_refused Γ r gs (all_branches gs tail) (part_left gs tail) X d)
    (both (is_true Γ b r) (input_refused Γ r c x y X) (λ i. i) k.0, k.1)

straight_taken : (Γ : Environment) (r : Values) (b : Exp) (c x z : ℕ) (p : Tree) (gs hs : Branches) → (x == z) ≡ false → Ignores z (meaning p)
    → is_true Γ b r ≡ true → (t : Trace) (u : Values) (a : Trace) (o : Outcome) → Taken Γ r (input c x) t u a → (meaning p).does Γ u a o
    → (up_to z (meaning (alt (around gs hs b c x z p)))).does Γ r t o
straight_taken Γ r b c x z p gs hs off h j t u a o (at_event {w = w} {e = e} {u = q} {t = f} i) d =
    let P : Values → Type 0 = λ y. (meaning p).does Γ y f o in
    let Q : Values → Type 0 = λ y. (meaning p).does Γ y f (with_result z i.0 o) in
    let ds : Branches = around gs hs b c x z p in
    let inner = subst Q (sym (passed Γ r x z i.0 off)) (h.ignored Γ (with_value r x i.0) i.0 f o (subst P i.3 d)) in (
      with_result z i.0 o,
      same_but_result z i.0 o,
      (covers_member Γ r ds b (input c z) (passed_on x z p) (middle gs hs b (input c z) (passed_on x z p))).covered j (e ∷ f) (with_value r z i.0) f (with_result z i.0 o)
          (at_event (i.0, i.1, i.2, refl)) ((assigned_then Γ (with_value r z i.0) (x ∷ []) (variable z ∷ []) p).back f (with_result z i.0 o) inner),
    )

around_taken : (Γ : Environment) (r : Values) (b : Exp) (c x z : ℕ) (p : Tree) (gs hs : Branches) → (x == z) ≡ false → Ignores z (meaning p)
    → is_true Γ b r ≡ true → (t : Trace) (u : Values) (a : Trace) (o : Outcome) → Taken Γ r (input c z) t u a → (meaning (passed_on x z p)).does Γ u a o
    → (up_to z (meaning (alt (straight gs hs b c x p)))).does Γ r t o
around_taken Γ r b c x z p gs hs off h j t u a o (at_event {w = w} {e = e} {u = q} {t = f} i) d =
    let P : Values → Type 0 = λ y. (meaning (passed_on x z p)).does Γ y f o in
    let Q : Values → Type 0 = λ y. (meaning p).does Γ y f o in
    let R : Values → Type 0 = λ y. (meaning p).does Γ y f (with_result z (r z) o) in
    let ds : Branches = straight gs hs b c x p in
    let inner = subst Q (passed Γ r x z i.0 off) ((assigned_then Γ (with_value r z i.0) (x ∷ []) (variable z ∷ []) p).forth f o (subst P i.3 d)) in
    let returned : with_value (with_value (with_value r x i.0) z i.0) z (r z) ≡ with_value r x i.0 =
    value_again (with_value r x i.0) z i.0 (r z) ∙ (ap (λ n. with_value (with_value r x i.0) z n) (sym (value_off r x i.0 z (off_turned x z off))) ∙ value_back (with_value r x i.0) z) in (
      with_result z (r z) o,
      same_but_result z (r z) o,
      (covers_member Γ r ds b (input c x) p (middle gs hs b (input c x) p)).covered j (e ∷ f) (with_value r x i.0) f (with_result z (r z) o)
          (at_event (i.0, i.1, i.2, refl)) (subst R returned (h.ignored Γ (with_value (with_value r x i.0) z i.0) (r z) f o inner)),
    )

straight_does : (Γ : Environment) (r : Values) (b : Exp) (c x z : ℕ) (p : Tree) (gs hs : Branches) → (x == z) ≡ false → Ignores z (meaning p)
    → (t : Trace) (o : Outcome) → (meaning (alt (straight gs hs b c x p))).does Γ r t o → (up_to z (meaning (alt (around gs hs b c x z p)))).does Γ r t o
straight_does Γ r b c x z p gs hs off h =
    let ds : Branches = around gs hs b c x z p in
    let m : Meaning = up_to z (meaning (alt ds)) in
    alt_covered Γ r (straight gs hs b c x p) m
    (λ X d. (refusing X, (λ n. refl), stable (other_refused Γ r b c x z p (passed_on x z p) gs hs X d)))
    (covers_all Γ r m gs (and_branch b (input c x) p hs) (covers_up_to Γ r z gs ds (part_left gs (and_branch b (input c z) (passed_on x z p) hs)))
    (covers_and Γ r m b (input c x) p hs (record { covered = straight_taken Γ r b c x z p gs hs off h })
    (covers_up_to Γ r z hs ds (after_middle gs hs b (input c z) (passed_on x z p)))))

around_does : (Γ : Environment) (r : Values) (b : Exp) (c x z : ℕ) (p : Tree) (gs hs : Branches) → (x == z) ≡ false → Ignores z (meaning p)
    → (t : Trace) (o : Outcome) → (meaning (alt (around gs hs b c x z p))).does Γ r t o → (up_to z (meaning (alt (straight gs hs b c x p)))).does Γ r t o
around_does Γ r b c x z p gs hs off h =
    let ds : Branches = straight gs hs b c x p in
    let m : Meaning = up_to z (meaning (alt ds)) in
    alt_covered Γ r (around gs hs b c x z p) m
    (λ X d. (refusing X, (λ n. refl), stable (other_refused Γ r b c z x (passed_on x z p) p gs hs X d)))
    (covers_all Γ r m gs (and_branch b (input c z) (passed_on x z p) hs) (covers_up_to Γ r z gs ds (part_left gs (and_branch b (input c x) p hs)))
    (covers_and Γ r m b (input c z) (passed_on x z p) hs (record { covered = around_taken Γ r b c x z p gs hs off h })
    (covers_up_to Γ r z hs ds (after_middle gs hs b (input c x) p))))

pub var_alt_input_sound : (Γ : Environment) (ks : List ℕ) (l r : Tree) → types_kept l Γ ≡ true → VarAltInput Γ ks l r → SAME Γ l r
var_alt_input_sound Γ ks l r t (var_alt_input z w gs hs b c x p off width free_gs free_b free_p free_hs) =
    let Δ : Environment = with_name Γ z (Var w) in
    let left : Tree = alt (straight gs hs b c x p) in
    let right : Tree = alt (around gs hs b c x z p) in
    let k = branches_behind_kept Δ gs (and_branch b (input c x) p hs) (and_parts (can_declare Γ z w) (types_kept left Δ) t).1 in
    let kept : types_kept p Δ ≡ true = (and_four (is_condition Δ b) (waiting_kept Δ (input c x)) (types_kept p Δ) (branches_kept hs Δ) k).2 in
    let h : Ignores z (meaning p) = part_ignores p Δ kept z (inl free_p) in
    same_at Γ (declare z w left) (declare z w right) (λ s state. record {
      forth = variable_up_to z w (meaning left) (meaning right) Γ s (λ v lt. straight_does Δ (with_value s z v) b c x z p gs hs off h);
      back = variable_up_to z w (meaning right) (meaning left) Γ s (λ v lt. around_does Δ (with_value s z v) b c x z p gs hs off h);
    })
