-- Each behaviour is reached by a schedule, and what a schedule reaches is a behaviour.
use Rattle.occ_meaning.specs.occ_base.declared.event.Event.{Event}
use Rattle.occ_run_steps.proofs.KeptSettled.{settled_kept}
use Rattle.occ_run_steps.proofs.Leading.{is_numbered, leads_keeps, leads_sound, stepped_kept}
use Rattle.occ_run_steps.proofs.Lists.{Is, first, later}
use Rattle.occ_run_steps.proofs.Moves.{Unfolded, ends, moves, waits}
use Rattle.occ_run_steps.proofs.SettledMeans.{settled_means}
use Rattle.occ_run_steps.proofs.Whole.{step_sound, step_stepping}
use Rattle.occ_run_steps.proofs.Work.{stepped_work, work}
use Rattle.occ_run_steps.specs.Controlled.{controlled}
use Rattle.occ_run_steps.specs.Reached.{Reached, Rests}
use Rattle.occ_run_steps.proofs.Settling.{settled_is_settled}
use Rattle.occ_run_steps.specs.Control.{Control, is_done, unbegun}
use Rattle.occ_run_steps.specs.Kept.{Kept}
use Rattle.occ_run_steps.specs.Leads.{Leads, at_rest, by_step, start, stepped}
use Rattle.occ_run_steps.specs.Settled.{is_settled}
use Rattle.occ_run_steps.specs.Step.{Step, changed, is_outside, outside, seen}
use Rattle.occ_run_steps.specs.Steps.{steps}
use Rattle.occ_meaning.specs.occ_syntax.Meaning.{Outcome, ended, meaning, refusing}
use Rattle.occ_meaning.specs.occ_syntax.Same.{HasTrace, none}
use Rattle.occ_meaning.specs.occ_syntax.Scopes.{Environment, EventSet, IsState, Trace, Values}
use Rattle.occ_meaning.specs.occ_syntax.Tree.{Tree}
use Rattle.occ_meaning.specs.occ_syntax.Usage.{Keeps}
use Rattle.std.proofs.Common.{List, None, Option, Some, [], ap, append-nil, arith, false, inl, inr, not, refl, subst, suc, sym, true, zero, ℕ, ◌∷◌, ◌≡◌, ◌≤◌, ◌⊎◌}
use Rattle.std.proofs.lemmas.Bool.{and_from, and_parts, cases_Bool, not-true, not_from_false}
use Rattle.std.specs.List.{list_all}

-- each step is outside, so all are
all_outside : (X : EventSet) (ks : List (Step Control)) → ((k : Step Control) → Is k ks → outside X k.event ≡ true) → list_all (is_outside X) ks ≡ true
all_outside X [] h = refl
all_outside X (k ∷ ks) h = and_from (is_outside X k) (list_all (is_outside X) ks) (h k first) (all_outside X ks (λ j i. h j (later i)))

-- all are outside, so each is
each_outside : (X : EventSet) (ks : List (Step Control)) → list_all (is_outside X) ks ≡ true → (k : Step Control) → Is k ks → outside X k.event ≡ true
each_outside X (j ∷ ks) h k first = (and_parts (is_outside X j) (list_all (is_outside X) ks) h).0
each_outside X (j ∷ ks) h k (later i) = each_outside X ks (and_parts (is_outside X j) (list_all (is_outside X) ks) h).1 k i
each_outside X [] h k i = elim i [ ]

-- what a step leaves is settled
stepped_settled : (Γ : Environment) (s : Values) (k : Step Control) → is_settled (stepped Γ s k) ≡ true
stepped_settled Γ s k = settled_is_settled Γ (changed k.changes s) k.next

-- ---- each behaviour is reached

-- by induction on what is left to do
reach : (n : ℕ) (Γ : Environment) (s : Values) (C : Control) → work C ≤ n → Kept Γ C → IsState Γ s → (t : Trace) (o : Outcome)
    → Unfolded Control controlled (λ k. Is k (steps Γ s C)) (is_done C) Γ s t o → Reached Γ s C t o
reach n Γ s C low kept state t o (ends d idle) = record { schedule = []; values = s; control = C; leads = at_rest; rests = (d, refl) }
reach n Γ s C low kept state t o (waits {X = X} d out) =
    record { schedule = []; values = s; control = C; leads = at_rest; rests = and_from (not (is_done C)) (list_all (is_outside X) (steps Γ s C)) (not_from_false (is_done C) d) (all_outside X (steps Γ s C) out) }
reach zero Γ s C low kept state t o (moves k a i e d) = absurd (let h = stepped_work Γ s C k i in omega arith)
reach (suc n) Γ s C low kept state t o (moves k a i e d) =
    let r : Values = changed k.changes s in
    let D : Control = stepped Γ s k in
    let h = stepped_kept Γ s C kept state k i in
    let lower = stepped_work Γ s C k i in
    let u = (step_stepping Γ r D h.0 h.1 (stepped_settled Γ s k)).unfolds.comes a o ((settled_means Γ r k.next).back a o d) in
    let q = reach n Γ r D (omega arith) h.0 h.1 a o u in
    let m = is_numbered (steps Γ s C) k i in
    let P : Trace → Type 0 = λ z. Leads Γ s C (m.0 ∷ q.schedule) z q.values q.control in
    record { schedule = m.0 ∷ q.schedule; values = q.values; control = q.control; leads = subst P (sym e) (by_step m.0 k m.1 q.leads); rests = q.rests }

-- each behaviour of a settled tree is reached
pub reached : (Γ : Environment) (s : Values) (C : Control) → Kept Γ C → IsState Γ s → is_settled C ≡ true → (t : Trace) (o : Outcome)
    → (controlled C).does Γ s t o → Reached Γ s C t o
reached Γ s C kept state still t o d = reach (work C) Γ s C (omega arith) kept state t o ((step_stepping Γ s C kept state still).unfolds.comes t o d)

-- ---- what is reached is a behaviour

-- where it rests, a tree has that outcome
rests_does : (Γ : Environment) (s : Values) (C : Control) → Kept Γ C → IsState Γ s → is_settled C ≡ true → (o : Outcome) → Rests Γ s C o → (controlled C).does Γ s [] o
rests_does Γ s C kept state still (ended r) h =
    let P : Values → Type 0 = λ z. (controlled C).does Γ s [] (ended z) in subst P (sym h.1) ((step_stepping Γ s C kept state still).rests.over h.0)
rests_does Γ s C kept state still (refusing X) h =
    let j = and_parts (not (is_done C)) (list_all (is_outside X) (steps Γ s C)) h in
    (step_stepping Γ s C kept state still).rests.refused (not-true (is_done C) j.0) X (each_outside X (steps Γ s C) j.1)

-- a schedule leads to settled trees
leads_settled : (Γ : Environment) (s : Values) (C : Control) (ns : List ℕ) (t : Trace) (r : Values) (D : Control) → is_settled C ≡ true → Leads Γ s C ns t r D
    → is_settled D ≡ true
leads_settled Γ s C ns t r D h at_rest = h
leads_settled Γ s C ns t r D h (by_step {ns = ms} {t = a} n k e l) = leads_settled Γ (changed k.changes s) (stepped Γ s k) ms a r D (stepped_settled Γ s k) l

-- what is reached is a behaviour
pub reached_does : (Γ : Environment) (s : Values) (C : Control) → Kept Γ C → IsState Γ s → is_settled C ≡ true → (t : Trace) (o : Outcome) → Reached Γ s C t o
    → (controlled C).does Γ s t o
reached_does Γ s C kept state still t o q =
    let h = leads_keeps Γ s C q.schedule t q.values q.control kept state q.leads in
    let d = rests_does Γ q.values q.control h.0 h.1 (leads_settled Γ s C q.schedule t q.values q.control still q.leads) o q.rests in
    let P : Trace → Type 0 = λ z. (controlled C).does Γ s z o in
    subst P (append-nil t) (leads_sound Γ s C q.schedule t q.values q.control kept state q.leads [] o d)

-- ---- the trace of every schedule

member_case : (j : Step Control) (ks : List (Step Control)) (k : Step Control) → Is k (j ∷ ks) → outside none j.event ≡ true
    → ((l : Step Control) → Is l ks → outside none l.event ≡ true) → outside none k.event ≡ true
member_case j ks k first h m = h
member_case j ks k (later i) h m = m k i

-- some step isn't seen, or every step is an event
unseen_or : (ks : List (Step Control)) → ((k : Step Control) × Is k ks × (k.event ≡ None)) ⊎ ((k : Step Control) → Is k ks → outside none k.event ≡ true)
unseen_or [] = inr (λ k i. elim i [ ])
unseen_or (j ∷ ks) = by_event j.event refl (unseen_or ks)
  where
    by_event : (v : Option Event) → j.event ≡ v → (((k : Step Control) × Is k ks × (k.event ≡ None)) ⊎ ((k : Step Control) → Is k ks → outside none k.event ≡ true))
        → ((k : Step Control) × Is k (j ∷ ks) × (k.event ≡ None)) ⊎ ((k : Step Control) → Is k (j ∷ ks) → outside none k.event ≡ true)
    by_event None e h = inl (j, first, e)
    by_event (Some f) e h = elim h [
      | inl m ↦ inl (m.0, later m.1, m.2)
      | inr m ↦ inr (λ k i. member_case j ks k i (let P : Option Event → Type 0 = λ v. outside none v ≡ true in subst P (sym e) refl) m)
    ]

-- at first it stands still or is over, or does so behind unseen steps
data Still (Γ : Environment) (s : Values) (C : Control) : Type 0 where
  stands : (controlled C).does Γ s [] (refusing none) → Still Γ s C
  is_over : (r : Values) → (controlled C).does Γ s [] (ended r) → Still Γ s C

-- what it comes to behind an unseen step, it comes to
still_before : (Γ : Environment) (s : Values) (C : Control) → Kept Γ C → IsState Γ s → (k : Step Control) → Is k (steps Γ s C) → k.event ≡ None
    → Still Γ (changed k.changes s) (stepped Γ s k) → Still Γ s C
still_before Γ s C kept state k i e (stands d) =
    let P : Trace → Type 0 = λ z. (controlled C).does Γ s z (refusing none) in
    stands (subst P (ap (λ v. seen v []) e) ((step_sound Γ s C kept state k i).behind [] (refusing none) ((settled_means Γ (changed k.changes s) k.next).forth [] (refusing none) d)))
still_before Γ s C kept state k i e (is_over r d) =
    let P : Trace → Type 0 = λ z. (controlled C).does Γ s z (ended r) in
    is_over r (subst P (ap (λ v. seen v []) e) ((step_sound Γ s C kept state k i).behind [] (ended r) ((settled_means Γ (changed k.changes s) k.next).forth [] (ended r) d)))

-- each tree comes to a rest by unseen steps
comes_still : (n : ℕ) (Γ : Environment) (s : Values) (C : Control) → work C ≤ n → Kept Γ C → IsState Γ s → is_settled C ≡ true
    → ((is_done C ≡ true) ⊎ (is_done C ≡ false))
    → (((k : Step Control) × Is k (steps Γ s C) × (k.event ≡ None)) ⊎ ((k : Step Control) → Is k (steps Γ s C) → outside none k.event ≡ true)) → Still Γ s C
comes_still n Γ s C low kept state still (inl d) h = is_over s ((step_stepping Γ s C kept state still).rests.over d)
comes_still n Γ s C low kept state still (inr d) (inr h) = stands ((step_stepping Γ s C kept state still).rests.refused d none h)
comes_still zero Γ s C low kept state still (inr d) (inl m) = absurd (let h = stepped_work Γ s C m.0 m.1 in omega arith)
comes_still (suc n) Γ s C low kept state still (inr d) (inl m) =
    let r : Values = changed m.0.changes s in
    let D : Control = stepped Γ s m.0 in
    let h = stepped_kept Γ s C kept state m.0 m.1 in
    let lower = stepped_work Γ s C m.0 m.1 in
    still_before Γ s C kept state m.0 m.1 m.2 (comes_still n Γ r D (omega arith) h.0 h.1 (stepped_settled Γ s m.0) (cases_Bool (is_done D)) (unseen_or (steps Γ r D)))

-- ---- programs

-- a program that keeps the rules starts with a tree that keeps them
start_kept : (Γ : Environment) (s : Values) (p : Tree) → Keeps Γ p → Kept Γ (start Γ s p)
start_kept Γ s p h = settled_kept Γ s (unbegun p) (record { types = h.types; usage = h.usage })

-- the start is settled
start_settled : (Γ : Environment) (s : Values) (p : Tree) → is_settled (start Γ s p) ≡ true
start_settled Γ s p = settled_is_settled Γ s (unbegun p)

-- each behaviour of a program is reached
pub program_reached : (Γ : Environment) (p : Tree) (s : Values) → Keeps Γ p → IsState Γ s → (t : Trace) (o : Outcome) → (meaning p).does Γ s t o → Reached Γ s (start Γ s p) t o
program_reached Γ p s h state t o d = reached Γ s (start Γ s p) (start_kept Γ s p h) state (start_settled Γ s p) t o ((settled_means Γ s (unbegun p)).back t o d)

-- what is reached from the start of a program is a behaviour of the program
pub program_does : (Γ : Environment) (p : Tree) (s : Values) → Keeps Γ p → IsState Γ s → (t : Trace) (o : Outcome) → Reached Γ s (start Γ s p) t o → (meaning p).does Γ s t o
program_does Γ p s h state t o q =
    (settled_means Γ s (unbegun p)).forth t o (reached_does Γ s (start Γ s p) (start_kept Γ s p h) state (start_settled Γ s p) t o q)

-- a tree that comes to a rest has the trace
has_trace : (Γ : Environment) (p : Tree) (s : Values) (t : Trace) (C : Control) (r : Values) → ((o : Outcome) → (controlled C).does Γ r [] o → (meaning p).does Γ s t o)
    → Still Γ r C → HasTrace Γ p s t
has_trace Γ p s t C r h (stands d) = inl (h (refusing none) d)
has_trace Γ p s t C r h (is_over q d) = inr (q, h (ended q) d)

-- a schedule's trace is a trace of the program
pub program_trace : (Γ : Environment) (p : Tree) (s : Values) → Keeps Γ p → IsState Γ s → (ns : List ℕ) (t : Trace) (r : Values) (D : Control)
    → Leads Γ s (start Γ s p) ns t r D → HasTrace Γ p s t
program_trace Γ p s h state ns t r D l =
    let k = start_kept Γ s p h in
    let j = leads_keeps Γ s (start Γ s p) ns t r D k state l in
    let still = leads_settled Γ s (start Γ s p) ns t r D (start_settled Γ s p) l in
    has_trace Γ p s t D r
    (λ o d. let P : Trace → Type 0 = λ z. (controlled (start Γ s p)).does Γ s z o in
    (settled_means Γ s (unbegun p)).forth t o (subst P (append-nil t) (leads_sound Γ s (start Γ s p) ns t r D k state l [] o d)))
    (comes_still (work D) Γ r D (omega arith) j.0 j.1 still (cases_Bool (is_done D)) (unseen_or (steps Γ r D)))
