-- A declared variable that no guard names goes into each branch of an ALT.
use Rattle.occ_law.specs.occ_base.Width.{bits_of}
use Rattle.occ_law.specs.occ_base.declared.event.Event.{Event}
use Rattle.occ_law.specs.occ_base.declared.width.Width.{Width}
use Rattle.occ_law.specs.Scope.{VarAlt, each_branch_declaring, some_guard_names, var_alt}
use Rattle.occ_law_sound.proofs.IntoChoices.{truth_inside}
use Rattle.occ_law_sound.proofs.Opened.{Opened, closed, closed_as, opened}
use Rattle.occ_law.proofs.from_meaning.Declared.{declared_off}
use Rattle.occ_law.proofs.from_meaning.Facts.{both, value_off}
use Rattle.occ_law.proofs.from_meaning.OffNames.{after_moves, agree_turned}
use Rattle.occ_law.proofs.from_meaning.OffValues.{Aloof, after_from, after_ignores, swap_values}
use Rattle.occ_law.specs.occ_meaning.Foundation.{with_result}
use Rattle.occ_law.proofs.from_meaning.AtState.{same_at}
use Rattle.occ_law.specs.occ_syntax.Eval.{is_true}
use Rattle.occ_law.specs.occ_syntax.Meaning.{After, Alternates, IsQuiet, Meaning, Outcome, Taken, WithVariable, alternatives, at_event, at_ready, guards, meaning, stable, taken}
use Rattle.occ_law.specs.occ_syntax.Names.{free_in_waiting, names}
use Rattle.occ_law.specs.occ_syntax.Same.{SAME}
use Rattle.occ_law.specs.occ_syntax.Scopes.{Environment, EventSet, Trace, Values, with_name, with_value}
use Rattle.occ_law.specs.occ_syntax.Tree.{Branches, Tree, Waiting, alt, and_branch, declare, input, no_branch, output, ready}
use Rattle.occ_law.specs.occ_syntax.declared.scope.Kind.{Kind}
use Rattle.occ_law.specs.occ_syntax.declared.scope.Kind.TheVariants.{Var}
use Rattle.std.proofs.Common.{Bool, List, MatchBool, ap, false, inl, inr, subst, sym, ℕ, ◌<◌, ◌==◌, ◌^◌, ◌∙◌, ◌≡◌, ◌||◌}
use Rattle.std.proofs.lemmas.Bool.{or_parts}
use Rattle.std.proofs.lemmas.Nat.{pow_pos}

-- a guard without the name neither inputs into it nor outputs its value
aloof : (w : Waiting) (x : ℕ) → free_in_waiting w x ≡ false → Aloof w x
aloof ready x h = tt
aloof (input c y) x h = (or_parts (x == c) (x == y) h).1
aloof (output c e) x h = (or_parts (x == c) (names e x) h).1

-- a guard leaves the variable as it is
after_keeps : (Γ : Environment) (s : Values) (x : ℕ) (w : Waiting) → Aloof w x → (e : Event) (u : Values) → After Γ s w e u → u x ≡ s x
after_keeps Γ s x ready h e u a = absurd a
after_keeps Γ s x (input c y) h e u a = ap (λ r. r x) a.3 ∙ value_off s y a.0 x h
after_keeps Γ s x (output c z) h e u a = ap (λ r. r x) a.1

after_inside : (Γ : Environment) (s : Values) (x v : ℕ) (k : Kind) (w : Waiting) → free_in_waiting w x ≡ false → (e : Event) (u : Values)
    → After Γ s w e u → After (with_name Γ x k) (with_value s x v) w e (with_value u x v)
after_inside Γ s x v k w h e u a =
    after_ignores (with_name Γ x k) s x v w (aloof w x h) e u (after_moves x Γ (with_name Γ x k) s (declared_off Γ x k) w h e u a)

-- the guard outside, and how its state lies to the one inside
after_outside : (Γ : Environment) (s : Values) (x v : ℕ) (k : Kind) (w : Waiting) → free_in_waiting w x ≡ false → (e : Event) (u : Values)
    → After (with_name Γ x k) (with_value s x v) w e u → (r : Values) × After Γ s w e r × (with_value r x v ≡ u)
after_outside Γ s x v k w h e u a =
    let j = after_from (with_name Γ x k) s x v w (aloof w x h) e u a in
    let i = after_moves x (with_name Γ x k) Γ s (agree_turned x Γ (with_name Γ x k) (declared_off Γ x k)) w h e j.0 j.1 in
    (j.0, i, one_state Γ (with_name Γ x k) s x v w (aloof w x h) e j.0 u i a)
  where
    one_state : (Γ Δ : Environment) (s : Values) (x v : ℕ) (w : Waiting) → Aloof w x → (e : Event) (r u : Values) → After Γ s w e r
        → After Δ (with_value s x v) w e u → with_value r x v ≡ u
    one_state Γ Δ s x v ready h e r u a b = absurd a
    one_state Γ Δ s x v (input c y) h e r u a b =
        let same : a.0 ≡ b.0 = ap (λ z. z.value) (sym a.2 ∙ b.2) in
        ap (λ q. with_value q x v) a.3 ∙ (ap (λ n. with_value (with_value s y n) x v) same ∙ (sym (swap_values s x v y b.0 h) ∙ sym b.3))
    one_state Γ Δ s x v (output c z) h e r u a b = ap (λ q. with_value q x v) a.1 ∙ sym b.1

-- ---- refusals

refused_outside : (Γ : Environment) (s : Values) (x v : ℕ) (w : Width) (gs : Branches) → some_guard_names gs x ≡ false → (X : EventSet)
    → (guards gs).refuses (with_name Γ x (Var w)) (with_value s x v) X → (guards (each_branch_declaring x w gs)).refuses Γ s X
refused_outside Γ s x v w no_branch h X d = d
refused_outside Γ s x v w (and_branch b g p gs) h X d =
    let j = or_parts (names b x || free_in_waiting g x) (some_guard_names gs x) h in
    let i = or_parts (names b x) (free_in_waiting g x) j.0 in
    let P : Bool → Type 0 = λ c. MatchBool c (IsQuiet Γ s g X) (Unit {0}) in (
      subst P (truth_inside Γ s x (Var w) v b i.0) (both (is_true (with_name Γ x (Var w)) b (with_value s x v))
          (λ q. record { not_ready = q.not_ready; refused = λ e u a. q.refused e (with_value u x v) (after_inside Γ s x v (Var w) g i.1 e u a) }) (λ q. q) d.0),
      refused_outside Γ s x v w gs j.1 X d.1,
    )

refused_inside : (Γ : Environment) (s : Values) (x v : ℕ) (w : Width) (gs : Branches) → some_guard_names gs x ≡ false → (X : EventSet)
    → (guards (each_branch_declaring x w gs)).refuses Γ s X → (guards gs).refuses (with_name Γ x (Var w)) (with_value s x v) X
refused_inside Γ s x v w no_branch h X d = d
refused_inside Γ s x v w (and_branch b g p gs) h X d =
    let j = or_parts (names b x || free_in_waiting g x) (some_guard_names gs x) h in
    let i = or_parts (names b x) (free_in_waiting g x) j.0 in
    let P : Bool → Type 0 = λ c. MatchBool c (IsQuiet (with_name Γ x (Var w)) (with_value s x v) g X) (Unit {0}) in (
      subst P (sym (truth_inside Γ s x (Var w) v b i.0)) (both (is_true Γ b s)
          (λ q. record { not_ready = q.not_ready; refused = λ e u a. (let k = after_outside Γ s x v (Var w) g i.1 e u a in q.refused e k.0 k.1) }) (λ q. q) d.0),
      refused_inside Γ s x v w gs j.1 X d.1,
    )

-- ---- one guard taken

taken_outside : (Γ : Environment) (s : Values) (x v : ℕ) (w : Width) → v < 2 ^ bits_of w → (g : Waiting) → free_in_waiting g x ≡ false → (m : Meaning)
    → (t : Trace) (u : Values) (a : Trace) (o : Outcome) → Taken (with_name Γ x (Var w)) (with_value s x v) g t u a → m.does (with_name Γ x (Var w)) u a o
    → (r : Values) × Taken Γ s g t r a × WithVariable x w m Γ r a (with_result x (s x) o)
taken_outside Γ s x v w lt g h m t u a o at_ready d = (s, at_ready, closed x w m Γ s t v lt o d)
taken_outside Γ s x v w lt g h m t u a o (at_event {w = z} {e = e} {u = q} {t = b} i) d =
    let k = after_outside Γ s x v (Var w) z h e q i in
    let P : Values → Type 0 = λ r. m.does (with_name Γ x (Var w)) r b o in
    let Q : ℕ → Type 0 = λ n. WithVariable x w m Γ k.0 b (with_result x n o) in
    (k.0, at_event k.1, subst Q (after_keeps Γ s x z (aloof z x h) e k.0 k.1) (closed x w m Γ k.0 b v lt o (subst P (sym k.2) d)))

taken_inside : (Γ : Environment) (s : Values) (x : ℕ) (w : Width) (g : Waiting) → free_in_waiting g x ≡ false → (m : Meaning)
    → (t : Trace) (u : Values) (a : Trace) (o : Outcome) → Taken Γ s g t u a → Opened x w m Γ u a o
    → Opened x w (record { does = λ Δ r c q. (z : Values) × (f : Trace) × Taken Δ r g c z f × m.does Δ z f q }) Γ s t o
taken_inside Γ s x w g h m t u a o at_ready k = record { value = k.value; below = k.below; inner = k.inner; outer = k.outer; inside = (with_value s x k.value, t, at_ready, k.inside) }
taken_inside Γ s x w g h m t u a o (at_event {w = z} {e = e} {u = q} {t = b} i) k =
    let same : q x ≡ s x = after_keeps Γ s x z (aloof z x h) e q i in
    record {
      value = k.value;
      below = k.below;
      inner = k.inner;
      outer = ap (λ n. with_result x n k.inner) (sym same) ∙ k.outer;
      inside = (with_value q x k.value, b, at_event (after_inside Γ s x k.value (Var w) z h e q i), k.inside);
    }

-- ---- the whole list

goes_outside : (Γ : Environment) (s : Values) (x v : ℕ) (w : Width) → v < 2 ^ bits_of w → (gs : Branches) → some_guard_names gs x ≡ false
    → (t : Trace) (o : Outcome) → (guards gs).goes (with_name Γ x (Var w)) (with_value s x v) t o
    → (guards (each_branch_declaring x w gs)).goes Γ s t (with_result x (s x) o)
goes_outside Γ s x v w lt no_branch h t o d = absurd d
goes_outside Γ s x v w lt (and_branch b g p gs) h t o d =
    let j = or_parts (names b x || free_in_waiting g x) (some_guard_names gs x) h in
    let i = or_parts (names b x) (free_in_waiting g x) j.0 in
    elim d [
      | inl k ↦ inl (
        sym (truth_inside Γ s x (Var w) v b i.0) ∙ k.0,
        (let q = taken_outside Γ s x v w lt g i.1 (meaning p) t k.1.0 k.1.1 o k.1.2 k.1.3 in (q.0, k.1.1, q.1, q.2)),
      )
      | inr k ↦ inr (goes_outside Γ s x v w lt gs j.1 t o k)
    ]

-- what the branches do inside, as a meaning
abbrev inner_branches : Branches → Meaning
inner_branches gs = record { does = λ Γ s t o. (guards gs).goes Γ s t o }

goes_inside : (Γ : Environment) (s : Values) (x : ℕ) (w : Width) (gs : Branches) → some_guard_names gs x ≡ false
    → (t : Trace) (o : Outcome) → (guards (each_branch_declaring x w gs)).goes Γ s t o → Opened x w (inner_branches gs) Γ s t o
goes_inside Γ s x w no_branch h t o d = absurd d
goes_inside Γ s x w (and_branch b g p gs) h t o d =
    let j = or_parts (names b x || free_in_waiting g x) (some_guard_names gs x) h in
    let i = or_parts (names b x) (free_in_waiting g x) j.0 in
    elim d [
      | inl k ↦ (let q = taken_inside Γ s x w g i.1 (meaning p) t k.1.0 k.1.1 o k.1.2 (opened x w (meaning p) Γ k.1.0 k.1.1 o k.1.3) in
          record { value = q.value; below = q.below; inner = q.inner; outer = q.outer; inside = inl (truth_inside Γ s x (Var w) q.value b i.0 ∙ k.0, q.inside) })
      | inr k ↦ (let q = goes_inside Γ s x w gs j.1 t o k in
          record { value = q.value; below = q.below; inner = q.inner; outer = q.outer; inside = inr q.inside })
    ]

alternates_outside : (Γ : Environment) (s : Values) (x v : ℕ) (w : Width) → v < 2 ^ bits_of w → (gs : Branches) → some_guard_names gs x ≡ false
    → (t : Trace) (o : Outcome) → Alternates (guards gs) (with_name Γ x (Var w)) (with_value s x v) t o
    → Alternates (guards (each_branch_declaring x w gs)) Γ s t (with_result x (s x) o)
alternates_outside Γ s x v w lt gs h t o (stable {X = X} d) = stable (refused_outside Γ s x v w gs h X d)
alternates_outside Γ s x v w lt gs h t o (taken d) = taken (goes_outside Γ s x v w lt gs h t o d)

alternates_inside : (Γ : Environment) (s : Values) (x : ℕ) (w : Width) (gs : Branches) → some_guard_names gs x ≡ false
    → (t : Trace) (o : Outcome) → Alternates (guards (each_branch_declaring x w gs)) Γ s t o → WithVariable x w (alternatives (guards gs)) Γ s t o
alternates_inside Γ s x w gs h t o (stable {X = X} d) = WithVariable.at_rest 0 (pow_pos (bits_of w)) (stable (refused_inside Γ s x 0 w gs h X d))
alternates_inside Γ s x w gs h t o (taken d) =
    let q = goes_inside Γ s x w gs h t o d in
    closed_as x w (alternatives (guards gs)) Γ s t o (record { value = q.value; below = q.below; inner = q.inner; outer = q.outer; inside = taken q.inside })

outside : (Γ : Environment) (s : Values) (x : ℕ) (w : Width) (gs : Branches) → some_guard_names gs x ≡ false
    → (t : Trace) (o : Outcome) → WithVariable x w (alternatives (guards gs)) Γ s t o → Alternates (guards (each_branch_declaring x w gs)) Γ s t o
outside Γ s x w gs h t o d =
    let k = opened x w (alternatives (guards gs)) Γ s t o d in
    let P : Outcome → Type 0 = λ i. Alternates (guards (each_branch_declaring x w gs)) Γ s t i in
    subst P k.outer (alternates_outside Γ s x k.value w k.below gs h t k.inner k.inside)

pub var_alt_sound : (Γ : Environment) (ks : List ℕ) (l r : Tree) → VarAlt ks l r → SAME Γ l r
var_alt_sound Γ ks l r (var_alt x w gs h) = same_at Γ (declare x w (alt gs)) (alt (each_branch_declaring x w gs)) (λ s state.
    record { forth = outside Γ s x w gs h; back = alternates_inside Γ s x w gs h })
