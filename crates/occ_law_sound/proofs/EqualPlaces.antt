-- Processes that differ in expressions alone, where the expressions in one place have one value in a state.
use Rattle.occ_law.specs.occ_base.declared.event.Dir.TheVariants.{Output}
use Rattle.occ_law.specs.occ_base.declared.event.Event.{Event}
use Rattle.occ_law.specs.occ_base.declared.names.Name.{Name}
use Rattle.occ_law.specs.Sequence.{ExprEqual, IoAlt, expr_in_alt, expr_in_assignment, expr_in_if, expr_in_output, input_alt, output_alt}
use Rattle.occ_law.specs.States.{BranchesEqual, CasesEqual, EachEqual, IsEqualAlways, WaitingEqual, and_equal_branch, and_equal_case, and_place, equal_input, equal_output, equal_ready, no_equal_branch, no_equal_case, no_place}
use Rattle.occ_law.proofs.from_meaning.Beside.{gives_itself, same_by}
use Rattle.occ_law.proofs.from_meaning.AtGuards.{GuardsAt, alternatives_alike, and_guard_at, no_guard_at, quiet_along}
use Rattle.occ_law.proofs.from_meaning.AtState.{AlikeAt, alike_itself, at_once_alike, chosen_alike, never_alike, same_at}
use Rattle.occ_law.specs.occ_syntax.Eval.{eval}
use Rattle.occ_law.specs.occ_syntax.Meaning.{After, Taken, assigned, at_event, at_ready, first_choice, guards, meaning}
use Rattle.occ_law.specs.occ_syntax.Same.{SAME}
use Rattle.occ_law.specs.occ_syntax.Scopes.{Environment, IsState, Trace, Values, environment, with_value}
use Rattle.occ_law.specs.occ_syntax.Tree.{Branches, Cases, Exp, Tree, Waiting, alt, and_branch, assign, input, no_branch, output, ready, receive, select, send, skip, truth}
use Rattle.occ_law.specs.occ_syntax.declared.scope.Kind.{Kind}
use Rattle.std.proofs.Common.{List, [], ap, refl, sym, true, ℕ, ◌==◌, ◌∙◌, ◌∷◌, ◌≡◌}

-- related expressions have one value in the state
pub record Equals (Γ : Environment) (s : Values) (E : Exp → Exp → Type 0) : Type 0 where
  pub equal : (e f : Exp) → E e f → eval Γ e s ≡ eval Γ f s

pub places_assigned : (Γ : Environment) (s : Values) (E : Exp → Exp → Type 0) → Equals Γ s E → (xs : List ℕ) (es fs : List Exp)
    → EachEqual E es fs → assigned xs es Γ s ≡ assigned xs fs Γ s
places_assigned Γ s E h [] es fs k = refl
places_assigned Γ s E h (x ∷ xs) es fs no_place = refl
places_assigned Γ s E h (x ∷ xs) es fs (and_place {e = e} {f = f} {es = ls} {fs = bs} i k) =
    ap (λ r. with_value r x (eval Γ e s)) (places_assigned Γ s E h xs ls bs k) ∙ ap (λ n. with_value (assigned xs bs Γ s) x n) (h.equal e f i)

pub cases_equal : (Γ : Environment) (s : Values) (E : Exp → Exp → Type 0) → Equals Γ s E → (cs ds : Cases) → CasesEqual E cs ds
    → AlikeAt Γ s s (first_choice cs) (first_choice ds)
cases_equal Γ s E h cs ds no_equal_case = never_alike Γ s s
cases_equal Γ s E h cs ds (and_equal_case {b = b} {c = c} {p = p} {cs = ls} {ds = bs} i k) =
    chosen_alike Γ s s b c (meaning p) (meaning p) (first_choice ls) (first_choice bs) (ap (λ n. n == 1) (h.equal b c i)) (λ j. alike_itself Γ s (meaning p)) (λ j. cases_equal Γ s E h ls bs k)

put_event : (c : ℕ) (m n : ℕ) → m ≡ n → (e : Event) → e ≡ record { chan = record { 0 = c }; dir = Output; value = m } → e ≡ record { chan = record { 0 = c }; dir = Output; value = n }
put_event c m n h e i = i ∙ ap (λ k. record { chan = record { 0 = c }; dir = Output; value = k }) h

after_equal : (Γ : Environment) (s : Values) (E : Exp → Exp → Type 0) → Equals Γ s E → (v w : Waiting) → WaitingEqual E v w
    → (e : Event) (u : Values) → After Γ s v e u → After Γ s w e u
after_equal Γ s E h v w equal_ready e u a = a
after_equal Γ s E h v w equal_input e u a = a
after_equal Γ s E h v w (equal_output {c = c} {e = f} {f = g} i) e u a = (put_event c (eval Γ f s) (eval Γ g s) (h.equal f g i) e a.0, a.1)

after_equal_back : (Γ : Environment) (s : Values) (E : Exp → Exp → Type 0) → Equals Γ s E → (v w : Waiting) → WaitingEqual E v w
    → (e : Event) (u : Values) → After Γ s w e u → After Γ s v e u
after_equal_back Γ s E h v w equal_ready e u a = a
after_equal_back Γ s E h v w equal_input e u a = a
after_equal_back Γ s E h v w (equal_output {c = c} {e = f} {f = g} i) e u a = (put_event c (eval Γ g s) (eval Γ f s) (sym (h.equal f g i)) e a.0, a.1)

ready_equal : (E : Exp → Exp → Type 0) (v w : Waiting) → WaitingEqual E v w → v ≡ ready → w ≡ ready
ready_equal E v w equal_ready h = h
ready_equal E v w equal_input h = h
ready_equal E v w (equal_output i) h = absurd (cc)

ready_equal_back : (E : Exp → Exp → Type 0) (v w : Waiting) → WaitingEqual E v w → w ≡ ready → v ≡ ready
ready_equal_back E v w equal_ready h = h
ready_equal_back E v w equal_input h = h
ready_equal_back E v w (equal_output i) h = absurd (cc)

-- a guard is taken as another that has the same events
taken_as : (Γ : Environment) (s : Values) (v w : Waiting) → (v ≡ ready → w ≡ ready) → ((e : Event) (u : Values) → After Γ s v e u → After Γ s w e u)
    → (t : Trace) (u : Values) (a : Trace) → Taken Γ s v t u a → Taken Γ s w t u a
taken_as Γ s v w h k t u a at_ready = at_ready_as w (h refl)
  where
    at_ready_as : {t : Trace} (w : Waiting) → w ≡ ready → Taken Γ s w t s t
    at_ready_as ready i = at_ready
    at_ready_as (input c x) i = absurd (cc)
    at_ready_as (output c e) i = absurd (cc)
taken_as Γ s v w h k t u a (at_event {w = z} {e = e} {u = r} i) = at_event (k e r i)

branches_forth : (Γ : Environment) (s : Values) (E : Exp → Exp → Type 0) → Equals Γ s E → (gs hs : Branches) → BranchesEqual E gs hs
    → GuardsAt Γ s s (guards gs) (guards hs)
branches_forth Γ s E h gs hs no_equal_branch = no_guard_at Γ s s
branches_forth Γ s E h gs hs (and_equal_branch {b = b} {c = c} {v = v} {w = w} {p = p} {gs = ls} {hs = bs} i j k) =
    and_guard_at Γ s s b c v w (meaning p) (meaning p) (guards ls) (guards bs) (ap (λ n. n == 1) (h.equal b c i))
    (quiet_along Γ s s v w (ready_equal_back E v w j) (λ e u a. (u, after_equal_back Γ s E h v w j e u a)))
    (λ t o d. (d.0, d.1, taken_as Γ s v w (ready_equal E v w j) (after_equal Γ s E h v w j) t d.0 d.1 d.2, d.3))
    (branches_forth Γ s E h ls bs k)

branches_back : (Γ : Environment) (s : Values) (E : Exp → Exp → Type 0) → Equals Γ s E → (gs hs : Branches) → BranchesEqual E gs hs
    → GuardsAt Γ s s (guards hs) (guards gs)
branches_back Γ s E h gs hs no_equal_branch = no_guard_at Γ s s
branches_back Γ s E h gs hs (and_equal_branch {b = b} {c = c} {v = v} {w = w} {p = p} {gs = ls} {hs = bs} i j k) =
    and_guard_at Γ s s c b w v (meaning p) (meaning p) (guards bs) (guards ls) (ap (λ n. n == 1) (sym (h.equal b c i)))
    (quiet_along Γ s s w v (ready_equal E v w j) (λ e u a. (u, after_equal Γ s E h v w j e u a)))
    (λ t o d. (d.0, d.1, taken_as Γ s w v (ready_equal_back E v w j) (after_equal_back Γ s E h v w j) t d.0 d.1 d.2, d.3))
    (branches_back Γ s E h ls bs k)

pub branches_equal : (Γ : Environment) (s : Values) (E : Exp → Exp → Type 0) → Equals Γ s E → (gs hs : Branches) → BranchesEqual E gs hs
    → AlikeAt Γ s s (meaning (alt gs)) (meaning (alt hs))
branches_equal Γ s E h gs hs k = alternatives_alike Γ s s (guards gs) (guards hs) (branches_forth Γ s E h gs hs k) (branches_back Γ s E h gs hs k)

-- ---- the laws

always_equals : (S : List (Name × Kind)) (s : Values) → IsState (environment S) s → Equals (environment S) s (IsEqualAlways S)
always_equals S s state = record { equal = λ e f h. h.equal s state }

output_alike : (Γ : Environment) (s : Values) (c : ℕ) (e f : Exp) → eval Γ e s ≡ eval Γ f s → AlikeAt Γ s s (meaning (send c e)) (meaning (send c f))
output_alike Γ s c e f h =
    branches_equal Γ s (λ a b. eval Γ a s ≡ eval Γ b s) (record { equal = λ a b i. i })
    (and_branch (truth true) (output c e) skip no_branch) (and_branch (truth true) (output c f) skip no_branch)
    (and_equal_branch refl (equal_output h) no_equal_branch)

pub expr_sound : (S : List (Name × Kind)) (ks : List ℕ) (l r : Tree) → ExprEqual S ks l r → SAME (environment S) l r
expr_sound S ks l r (expr_in_assignment xs es fs k) = same_at (environment S) (assign xs es) (assign xs fs) (λ s state.
    at_once_alike (environment S) s s (assigned xs es) (assigned xs fs) (places_assigned (environment S) s (IsEqualAlways S) (always_equals S s state) xs es fs k))
expr_sound S ks l r (expr_in_output c e f k) = same_at (environment S) (send c e) (send c f) (λ s state. output_alike (environment S) s c e f (k.equal s state))
expr_sound S ks l r (expr_in_if cs ds k) = same_at (environment S) (select cs) (select ds) (λ s state. cases_equal (environment S) s (IsEqualAlways S) (always_equals S s state) cs ds k)
expr_sound S ks l r (expr_in_alt gs hs k) = same_at (environment S) (alt gs) (alt hs) (λ s state. branches_equal (environment S) s (IsEqualAlways S) (always_equals S s state) gs hs k)

pub io_sound : (Γ : Environment) (ks : List ℕ) (l r : Tree) → IoAlt ks l r → SAME Γ l r
io_sound Γ ks l r (output_alt c e) = same_by Γ (send c e) (alt (and_branch (truth true) (output c e) skip no_branch)) (gives_itself Γ (meaning (send c e))) (gives_itself Γ (meaning (send c e)))
io_sound Γ ks l r (input_alt c x) = same_by Γ (receive c x) (alt (and_branch (truth true) (input c x) skip no_branch)) (gives_itself Γ (meaning (receive c x))) (gives_itself Γ (meaning (receive c x)))
