-- An assignment in front of an IF or an ALT goes into each of its choices or branches.
use Rattle.occ_law.specs.occ_base.declared.event.Dir.TheVariants.{Output}
use Rattle.occ_law.specs.occ_base.declared.event.Event.{Event}
use Rattle.occ_law.specs.Lists.{assigned_without, assignment, names_without, values_without}
use Rattle.occ_law.specs.Sequence.{AssignAlt, AssignIf, assign_alt, assign_if, assigned_behind, each_assigned, each_guard_assigned, spare_inputs, spares_input, substituted_waiting}
use Rattle.occ_law_sound.proofs.Assigning.{assign_kept}
use Rattle.occ_law.proofs.from_meaning.Beside.{done}
use Rattle.occ_law.proofs.from_meaning.OffValues.{swap_values, value_again, value_unnamed}
use Rattle.occ_law.proofs.from_meaning.Substituting.{substituted_value}
use Rattle.occ_law.specs.occ_meaning.Parallel.{two}
use Rattle.occ_law.specs.occ_meaning.Substitution.{substituted}
use Rattle.occ_law.proofs.from_meaning.AtGuards.{GuardsAt, Steps, alternatives_alike, and_guard_at, no_guard_at, quiet_along}
use Rattle.occ_law.proofs.from_meaning.AtState.{AlikeAt, alike_along, alike_itself, alike_through, alike_turned, assigned_then, chosen_alike, followed_alike, never_alike, same_at}
use Rattle.occ_law.specs.occ_syntax.Eval.{eval, is_true}
use Rattle.occ_law.specs.occ_syntax.Meaning.{After, Outcome, Taken, assigned, at_event, at_ready, first_choice, followed, guards, meaning}
use Rattle.occ_law.specs.occ_syntax.Names.{names, some_names}
use Rattle.occ_law.specs.occ_syntax.Same.{SAME}
use Rattle.occ_law.specs.occ_syntax.Scopes.{Environment, Trace, Values, with_value}
use Rattle.occ_law.specs.occ_syntax.Tree.{Branches, Cases, Exp, Tree, Waiting, alt, and_branch, and_case, assign, input, no_branch, no_case, output, ready, select, seq}
use Rattle.occ_law.specs.occ_syntax.Types.{pairs_kept, types_kept}
use Rattle.std.proofs.Common.{Bool, List, [], ap, false, if◌then◌else◌, refl, subst, sym, true, ℕ, ◌&&◌, ◌==◌, ◌∙◌, ◌∷◌, ◌≡◌}
use Rattle.std.proofs.lemmas.Bool.{and_parts, eqb-true, not-true, or_parts}

pub substituted_truth : (Γ : Environment) (s : Values) (xs : List ℕ) (es : List Exp) → pairs_kept Γ xs es ≡ true → (b : Exp)
    → is_true Γ (substituted xs es b) s ≡ is_true Γ b (assigned xs es Γ s)
substituted_truth Γ s xs es h b = ap (λ n. n == 1) (substituted_value Γ s xs es h b)

cases_assigned : (Γ : Environment) (s : Values) (xs : List ℕ) (es : List Exp) → pairs_kept Γ xs es ≡ true → (cs : Cases)
    → AlikeAt Γ s (assigned xs es Γ s) (first_choice (each_assigned xs es cs)) (first_choice cs)
cases_assigned Γ s xs es h no_case = never_alike Γ s (assigned xs es Γ s)
cases_assigned Γ s xs es h (and_case b p cs) =
    chosen_alike Γ s (assigned xs es Γ s) (substituted xs es b) b (meaning (seq (two (assign xs es) p))) (meaning p) (first_choice (each_assigned xs es cs)) (first_choice cs)
    (substituted_truth Γ s xs es h b) (λ i. assigned_then Γ s xs es p) (λ i. cases_assigned Γ s xs es h cs)

-- the assignment of a SEQ of an assignment and a part
pub front_kept : (Γ : Environment) (xs : List ℕ) (es : List Exp) (p : Tree) → types_kept (seq (two (assign xs es) p)) Γ ≡ true
    → (pairs_kept Γ xs es ≡ true) × (types_kept p Γ ≡ true)
front_kept Γ xs es p h =
    let k = and_parts (types_kept (assign xs es) Γ) (types_kept p Γ && true) h in
    (assign_kept Γ xs es k.0, (and_parts (types_kept p Γ) true k.1).0)

pub if_sound : (Γ : Environment) (ks : List ℕ) (l r : Tree) → types_kept l Γ ≡ true → AssignIf ks l r → SAME Γ l r
if_sound Γ ks l r h (assign_if xs es cs) = same_at Γ (seq (two (assign xs es) (select cs))) (select (each_assigned xs es cs)) (λ s state.
    alike_through Γ s (assigned xs es Γ s) s (meaning (seq (two (assign xs es) (select cs)))) (first_choice cs) (first_choice (each_assigned xs es cs))
    (assigned_then Γ s xs es (select cs))
    (alike_turned Γ s (assigned xs es Γ s) (first_choice (each_assigned xs es cs)) (first_choice cs) (cases_assigned Γ s xs es (front_kept Γ xs es (select cs) h).0 cs)))

-- ---- without one variable

-- an assignment without right sides changes nothing
nothing_assigned : (Γ : Environment) (s : Values) (xs : List ℕ) → assigned xs [] Γ s ≡ s
nothing_assigned Γ s [] = refl
nothing_assigned Γ s (x ∷ xs) = refl

pub assignment_alike : (Γ : Environment) (s : Values) (xs : List ℕ) (es : List Exp)
    → AlikeAt Γ s s (meaning (assignment xs es)) (meaning (assign xs es))
assignment_alike Γ s [] es = record { forth = λ t o d. d; back = λ t o d. d }
assignment_alike Γ s (x ∷ xs) es = alike_itself Γ s (meaning (assign (x ∷ xs) es))

-- a variable that is set behind an assignment may be set before it, without its pair
set_before : (Γ : Environment) (s : Values) (x v : ℕ) (ys : List ℕ) (es : List Exp) → some_names (values_without x ys es) x ≡ false
    → assigned (names_without x ys) (values_without x ys es) Γ (with_value s x v) ≡ with_value (assigned ys es Γ s) x v
set_before Γ s x v [] es h = refl
set_before Γ s x v (y ∷ ys) [] h = nothing_assigned Γ (with_value s x v) (names_without x (y ∷ ys))
set_before Γ s x v (y ∷ ys) (e ∷ es) h = by_test Γ s x v y ys e es (x == y) refl h (set_before Γ s x v ys es)
  where
    by_test : (Γ : Environment) (s : Values) (x v y : ℕ) (ys : List ℕ) (e : Exp) (es : List Exp) (b : Bool) → (x == y) ≡ b
        → some_names (if b then values_without x ys es else e ∷ values_without x ys es) x ≡ false
        → (some_names (values_without x ys es) x ≡ false → assigned (names_without x ys) (values_without x ys es) Γ (with_value s x v) ≡ with_value (assigned ys es Γ s) x v)
        → assigned (if b then names_without x ys else y ∷ names_without x ys) (if b then values_without x ys es else e ∷ values_without x ys es) Γ (with_value s x v)
        ≡ with_value (with_value (assigned ys es Γ s) y (eval Γ e s)) x v
    by_test Γ s x v y ys e es true i k rest =
        let P : ℕ → Type 0 = λ z. with_value (assigned ys es Γ s) x v ≡ with_value (with_value (assigned ys es Γ s) z (eval Γ e s)) x v in
        rest k ∙ subst P (eqb-true x y i) (sym (value_again (assigned ys es Γ s) x (eval Γ e s) v))
    by_test Γ s x v y ys e es false i k rest =
        let j = or_parts (names e x) (some_names (values_without x ys es) x) k in
        ap (λ r. with_value r y (eval Γ e (with_value s x v))) (rest j.1)
        ∙ (ap (λ n. with_value (with_value (assigned ys es Γ s) x v) y n) (sym (value_unnamed Γ s x v e j.0))
        ∙ swap_values (assigned ys es Γ s) x v y (eval Γ e s) i)

without_alike : (Γ : Environment) (s : Values) (xs : List ℕ) (es : List Exp) (x v : ℕ) (p : Tree) → some_names (values_without x xs es) x ≡ false
    → AlikeAt Γ (with_value s x v) (with_value (assigned xs es Γ s) x v) (meaning (seq (two (assigned_without x xs es) p))) (meaning p)
without_alike Γ s xs es x v p h =
    let ns : List ℕ = names_without x xs in
    let fs : List Exp = values_without x xs es in
    let r : Values = with_value s x v in
    alike_through Γ r r (with_value (assigned xs es Γ s) x v) (meaning (seq (two (assignment ns fs) p))) (meaning (seq (two (assign ns fs) p))) (meaning p)
    (followed_alike Γ r r (meaning (assignment ns fs)) (meaning (assign ns fs)) (followed (meaning p) done) (assignment_alike Γ r ns fs))
    (alike_through Γ r (assigned ns fs Γ r) (with_value (assigned xs es Γ s) x v) (meaning (seq (two (assign ns fs) p))) (meaning p) (meaning p)
    (assigned_then Γ r ns fs p) (alike_along Γ (assigned ns fs Γ r) (with_value (assigned xs es Γ s) x v) (meaning p) (set_before Γ s x v xs es h)))

-- ---- ALT

steps_forth : (Γ : Environment) (s : Values) (xs : List ℕ) (es : List Exp) → pairs_kept Γ xs es ≡ true → (w : Waiting) (p : Tree)
    → spares_input xs es w ≡ true → (t : Trace) (u : Values) (a : Trace) (o : Outcome) → Taken Γ (assigned xs es Γ s) w t u a → (meaning p).does Γ u a o
    → Steps Γ s (substituted_waiting xs es w) (meaning (seq (two (assigned_behind xs es w) p))) t o
steps_forth Γ s xs es h ready p k t u a o at_ready d = (s, t, at_ready, (assigned_then Γ s xs es p).back t o d)
steps_forth Γ s xs es h ready p k t u a o (at_event i) d = absurd i
steps_forth Γ s xs es h (input c x) p k t u a o (at_event {w = w} {e = e} {u = z} {t = b} i) d =
    let P : Values → Type 0 = λ r. (meaning p).does Γ r b o in (
      with_value s x i.0,
      b,
      at_event (i.0, i.1, i.2, refl),
      (without_alike Γ s xs es x i.0 p (not-true (some_names (values_without x xs es) x) k)).back b o (subst P i.3 d),
    )
steps_forth Γ s xs es h (output c f) p k t u a o (at_event {w = w} {e = e} {u = z} {t = b} i) d =
    let P : Values → Type 0 = λ r. (meaning p).does Γ r b o in (
      s,
      b,
      at_event (i.0 ∙ ap (λ n. record { chan = record { 0 = c }; dir = Output; value = n }) (sym (substituted_value Γ s xs es h f)), refl),
      (assigned_then Γ s xs es p).back b o (subst P i.1 d),
    )

steps_back : (Γ : Environment) (s : Values) (xs : List ℕ) (es : List Exp) → pairs_kept Γ xs es ≡ true → (w : Waiting) (p : Tree)
    → spares_input xs es w ≡ true → (t : Trace) (u : Values) (a : Trace) (o : Outcome) → Taken Γ s (substituted_waiting xs es w) t u a
    → (meaning (seq (two (assigned_behind xs es w) p))).does Γ u a o → Steps Γ (assigned xs es Γ s) w (meaning p) t o
steps_back Γ s xs es h ready p k t u a o at_ready d = (assigned xs es Γ s, t, at_ready, (assigned_then Γ s xs es p).forth t o d)
steps_back Γ s xs es h ready p k t u a o (at_event i) d = absurd i
steps_back Γ s xs es h (input c x) p k t u a o (at_event {w = w} {e = e} {u = z} {t = b} i) d =
    let P : Values → Type 0 = λ r. (meaning (seq (two (assigned_without x xs es) p))).does Γ r b o in (
      with_value (assigned xs es Γ s) x i.0,
      b,
      at_event (i.0, i.1, i.2, refl),
      (without_alike Γ s xs es x i.0 p (not-true (some_names (values_without x xs es) x) k)).forth b o (subst P i.3 d),
    )
steps_back Γ s xs es h (output c f) p k t u a o (at_event {w = w} {e = e} {u = z} {t = b} i) d =
    let P : Values → Type 0 = λ r. (meaning (seq (two (assign xs es) p))).does Γ r b o in (
      assigned xs es Γ s,
      b,
      at_event (i.0 ∙ ap (λ n. record { chan = record { 0 = c }; dir = Output; value = n }) (substituted_value Γ s xs es h f), refl),
      (assigned_then Γ s xs es p).forth b o (subst P i.1 d),
    )

events_forth : (Γ : Environment) (s : Values) (xs : List ℕ) (es : List Exp) → pairs_kept Γ xs es ≡ true → (w : Waiting) (e : Event) (u : Values)
    → After Γ (assigned xs es Γ s) w e u → (z : Values) × After Γ s (substituted_waiting xs es w) e z
events_forth Γ s xs es h ready e u i = absurd i
events_forth Γ s xs es h (input c x) e u i = (with_value s x i.0, (i.0, i.1, i.2, refl))
events_forth Γ s xs es h (output c f) e u i = (s, (i.0 ∙ ap (λ n. record { chan = record { 0 = c }; dir = Output; value = n }) (sym (substituted_value Γ s xs es h f)), refl))

events_back : (Γ : Environment) (s : Values) (xs : List ℕ) (es : List Exp) → pairs_kept Γ xs es ≡ true → (w : Waiting) (e : Event) (u : Values)
    → After Γ s (substituted_waiting xs es w) e u → (z : Values) × After Γ (assigned xs es Γ s) w e z
events_back Γ s xs es h ready e u i = absurd i
events_back Γ s xs es h (input c x) e u i = (with_value (assigned xs es Γ s) x i.0, (i.0, i.1, i.2, refl))
events_back Γ s xs es h (output c f) e u i = (assigned xs es Γ s, (i.0 ∙ ap (λ n. record { chan = record { 0 = c }; dir = Output; value = n }) (substituted_value Γ s xs es h f), refl))

ready_forth : (xs : List ℕ) (es : List Exp) (w : Waiting) → w ≡ ready → substituted_waiting xs es w ≡ ready
ready_forth xs es ready h = refl
ready_forth xs es (input c x) h = absurd (cc)
ready_forth xs es (output c f) h = absurd (cc)

ready_back : (xs : List ℕ) (es : List Exp) (w : Waiting) → substituted_waiting xs es w ≡ ready → w ≡ ready
ready_back xs es ready h = refl
ready_back xs es (input c x) h = absurd (cc)
ready_back xs es (output c f) h = absurd (cc)

guards_forth : (Γ : Environment) (s : Values) (xs : List ℕ) (es : List Exp) → pairs_kept Γ xs es ≡ true → (gs : Branches) → spare_inputs xs es gs ≡ true
    → GuardsAt Γ (assigned xs es Γ s) s (guards gs) (guards (each_guard_assigned xs es gs))
guards_forth Γ s xs es h no_branch k = no_guard_at Γ (assigned xs es Γ s) s
guards_forth Γ s xs es h (and_branch b w p gs) k =
    let j = and_parts (spares_input xs es w) (spare_inputs xs es gs) k in
    and_guard_at Γ (assigned xs es Γ s) s b (substituted xs es b) w (substituted_waiting xs es w) (meaning p) (meaning (seq (two (assigned_behind xs es w) p)))
    (guards gs) (guards (each_guard_assigned xs es gs))
    (sym (substituted_truth Γ s xs es h b))
    (quiet_along Γ (assigned xs es Γ s) s w (substituted_waiting xs es w) (ready_back xs es w) (events_back Γ s xs es h w))
    (λ t o d. steps_forth Γ s xs es h w p j.0 t d.0 d.1 o d.2 d.3)
    (guards_forth Γ s xs es h gs j.1)

guards_back : (Γ : Environment) (s : Values) (xs : List ℕ) (es : List Exp) → pairs_kept Γ xs es ≡ true → (gs : Branches) → spare_inputs xs es gs ≡ true
    → GuardsAt Γ s (assigned xs es Γ s) (guards (each_guard_assigned xs es gs)) (guards gs)
guards_back Γ s xs es h no_branch k = no_guard_at Γ s (assigned xs es Γ s)
guards_back Γ s xs es h (and_branch b w p gs) k =
    let j = and_parts (spares_input xs es w) (spare_inputs xs es gs) k in
    and_guard_at Γ s (assigned xs es Γ s) (substituted xs es b) b (substituted_waiting xs es w) w (meaning (seq (two (assigned_behind xs es w) p))) (meaning p)
    (guards (each_guard_assigned xs es gs)) (guards gs)
    (substituted_truth Γ s xs es h b)
    (quiet_along Γ s (assigned xs es Γ s) (substituted_waiting xs es w) w (ready_forth xs es w) (events_forth Γ s xs es h w))
    (λ t o d. steps_back Γ s xs es h w p j.0 t d.0 d.1 o d.2 d.3)
    (guards_back Γ s xs es h gs j.1)

pub alt_sound : (Γ : Environment) (ks : List ℕ) (l r : Tree) → types_kept l Γ ≡ true → AssignAlt ks l r → SAME Γ l r
alt_sound Γ ks l r h (assign_alt xs es gs k) =
    let j = (front_kept Γ xs es (alt gs) h).0 in
    same_at Γ (seq (two (assign xs es) (alt gs))) (alt (each_guard_assigned xs es gs)) (λ s state.
    alike_through Γ s (assigned xs es Γ s) s (meaning (seq (two (assign xs es) (alt gs)))) (meaning (alt gs)) (meaning (alt (each_guard_assigned xs es gs)))
    (assigned_then Γ s xs es (alt gs))
    (alternatives_alike Γ (assigned xs es Γ s) s (guards gs) (guards (each_guard_assigned xs es gs)) (guards_forth Γ s xs es j gs k) (guards_back Γ s xs es j gs k)))
