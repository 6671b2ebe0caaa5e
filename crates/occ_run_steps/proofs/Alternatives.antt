-- The steps of an ALT: those of its enabled guards.
use Rattle.occ_meaning.specs.occ_base.declared.event.Dir.TheVariants.{Input, Output}
use Rattle.occ_meaning.specs.occ_base.declared.event.Event.{Event}
use Rattle.occ_meaning.specs.occ_base.declared.width.Width.{Width}
use Rattle.occ_meaning.specs.occ_base.Width.{bits_of}
use Rattle.occ_meaning.proofs.Facts.{false_not_true}
use Rattle.occ_run_steps.proofs.Lists.{Is, first, is_either, is_in_range, is_left, is_mapped, is_right, later, mapped_is}
use Rattle.occ_run_steps.proofs.StepKeeps.{has_value}
use Rattle.occ_run_steps.proofs.Moves.{AtRest, Sound, Unfolded, Unfolds, moves, waits}
use Rattle.occ_run_steps.specs.Controlled.{controlled}
use Rattle.occ_run_steps.specs.Control.{Control, unbegun}
use Rattle.occ_run_steps.specs.Step.{Step, changed, outside, seen, step}
use Rattle.occ_run_steps.specs.Steps.{branch_steps, guard_steps, values_of}
use Rattle.occ_meaning.specs.occ_syntax.Eval.{eval, is_true}
use Rattle.occ_meaning.specs.occ_syntax.Meaning.{Alternates, IsQuiet, Outcome, Taken, alternatives, at_event, at_ready, guards, meaning, stable, taken}
use Rattle.occ_meaning.specs.occ_syntax.Scopes.{Environment, EventSet, Trace, Values, channel_width, has_width, with_value}
use Rattle.occ_meaning.specs.occ_syntax.Tree.{Branches, Tree, Waiting, and_branch, input, no_branch, output, ready}
use Rattle.std.proofs.Common.{arith, Bool, List, MatchBool, None, Option, Some, [], ap, false, if◌then◌else◌, inl, inr, not, refl, subst, sym, true, ℕ, ◌<◌, ◌^◌, ◌∷◌, ◌≡◌}
use Rattle.std.proofs.lemmas.Bool.{ltb-true, not-true}

-- a step of an enabled guard
enabled : (b : Bool) (ks : List (Step Control)) (k : Step Control) → Is k (if b then ks else []) → (b ≡ true) × Is k ks
enabled true ks k i = (refl, i)
enabled false ks k i = elim i [ ]

-- an enabled guard has its steps
enable : (b : Bool) (ks : List (Step Control)) (k : Step Control) → b ≡ true → Is k ks → Is k (if b then ks else [])
enable true ks k e i = i
enable false ks k e i = false_not_true e

-- a value of the width is in the list
value_is : (o : Option Width) (v : ℕ) → has_width o v ≡ true → Is v (values_of o)
value_is (Some w) v h = is_in_range 0 (2 ^ bits_of w) v (omega arith) (let i : v < 2 ^ bits_of w = ltb-true v (2 ^ bits_of w) h in omega arith)
value_is None v h = false_not_true h

-- ALT: what is done behind a guard's step is done with it
guard_goes : (Γ : Environment) (s : Values) (w : Waiting) (p : Tree) (k : Step Control) → Is k (guard_steps Γ s w p) → (t : Trace) (o : Outcome)
    → (controlled k.next).does Γ (changed k.changes s) t o → (u : Values) × (a : Trace) × Taken Γ s w (seen k.event t) u a × (meaning p).does Γ u a o
guard_goes Γ s ready p k first t o d = (s, t, at_ready, d)
guard_goes Γ s ready p k (later i) t o d = elim i [ ]
guard_goes Γ s (output c z) p k first t o d = (s, t, at_event (refl, refl), d)
guard_goes Γ s (output c z) p k (later i) t o d = elim i [ ]
guard_goes Γ s (input c x) p k i t o d =
    let F : ℕ → Step Control = λ v. step (Some (record { chan = record { 0 = c }; dir = Input; value = v })) ((x, v) ∷ []) (unbegun p) in
    let m = mapped_is F k (values_of (channel_width Γ c)) i in
    let P : Step Control → Type 0 = λ j. (controlled j.next).does Γ (changed j.changes s) t o in
    let Q : Step Control → Type 0 = λ j. (u : Values) × (a : Trace) × Taken Γ s (input c x) (seen j.event t) u a × (meaning p).does Γ u a o in
    subst Q (sym m.2) (with_value s x m.0, t, at_event (m.0, has_value (channel_width Γ c) m.0 m.1, refl, refl), subst P m.2 d)

-- the same of a list of branches
branch_goes : (Γ : Environment) (s : Values) (bs : Branches) (k : Step Control) → Is k (branch_steps Γ s bs) → (t : Trace) (o : Outcome)
    → (controlled k.next).does Γ (changed k.changes s) t o → (guards bs).goes Γ s (seen k.event t) o
branch_goes Γ s no_branch k i t o d = elim i [ ]
branch_goes Γ s (and_branch e w p bs) k i t o d =
    elim (is_either k (if is_true Γ e s then guard_steps Γ s w p else []) (branch_steps Γ s bs) i) [
      | inl h ↦ (let j = enabled (is_true Γ e s) (guard_steps Γ s w p) k h in inl (j.0, guard_goes Γ s w p k j.1 t o d))
      | inr h ↦ inr (branch_goes Γ s bs k h t o d)
    ]

-- each step of an ALT is sound
pub alt_sound : (Γ : Environment) (s : Values) (bs : Branches) (k : Step Control) → Is k (branch_steps Γ s bs)
    → Sound Γ s (alternatives (guards bs)) k.event k.changes (controlled k.next)
alt_sound Γ s bs k i = record { behind = λ t o d. taken (branch_goes Γ s bs k i t o d) }

-- a step of a list, and the remainder that is done by what it leaves
pub record Begins (ks : List (Step Control)) (Γ : Environment) (s : Values) (t : Trace) (o : Outcome) : Type 0 where
  pub by : Step Control
  pub rest : Trace
  pub member : Is by ks
  pub whole : t ≡ seen by.event rest
  pub does : (controlled by.next).does Γ (changed by.changes s) rest o

-- a guard is taken by one of its steps
taken_begins : (Γ : Environment) (s : Values) (w : Waiting) (p : Tree) (t : Trace) (u : Values) (a : Trace) (o : Outcome) → Taken Γ s w t u a
    → (meaning p).does Γ u a o → Begins (guard_steps Γ s w p) Γ s t o
taken_begins Γ s ready p t u a o at_ready d = record { by = step None [] (unbegun p); rest = t; member = first; whole = refl; does = d }
taken_begins Γ s ready p t u a o (at_event h) d = absurd h
taken_begins Γ s (output c z) p t u a o (at_event {e = e} {t = b} h) d =
    let P : Values → Type 0 = λ r. (meaning p).does Γ r b o in
    record {
      by = step (Some (record { chan = record { 0 = c }; dir = Output; value = eval Γ z s })) [] (unbegun p);
      rest = b;
      member = first;
      whole = ap (λ f. f ∷ b) h.0;
      does = subst P h.1 d;
    }
taken_begins Γ s (input c x) p t u a o (at_event {e = e} {t = b} h) d =
    let F : ℕ → Step Control = λ v. step (Some (record { chan = record { 0 = c }; dir = Input; value = v })) ((x, v) ∷ []) (unbegun p) in
    let P : Values → Type 0 = λ r. (meaning p).does Γ r b o in
    record {
      by = F h.0;
      rest = b;
      member = is_mapped F h.0 (values_of (channel_width Γ c)) (value_is (channel_width Γ c) h.0 h.1);
      whole = ap (λ f. f ∷ b) h.2;
      does = subst P h.3 d;
    }

-- an ALT goes on by one of its steps
goes_begins : (Γ : Environment) (s : Values) (bs : Branches) (t : Trace) (o : Outcome) → (guards bs).goes Γ s t o → Begins (branch_steps Γ s bs) Γ s t o
goes_begins Γ s no_branch t o d = absurd d
goes_begins Γ s (and_branch e w p bs) t o d =
    let ks : List (Step Control) = if is_true Γ e s then guard_steps Γ s w p else [] in
    elim d [
      | inl h ↦ (let m = taken_begins Γ s w p t h.1.0 h.1.1 o h.1.2 h.1.3 in
          record { by = m.by; rest = m.rest; member = is_left m.by ks (branch_steps Γ s bs) (enable (is_true Γ e s) (guard_steps Γ s w p) m.by h.0 m.member); whole = m.whole; does = m.does })
      | inr h ↦ (let m = goes_begins Γ s bs t o h in
          record { by = m.by; rest = m.rest; member = is_right m.by ks (branch_steps Γ s bs) m.member; whole = m.whole; does = m.does })
    ]

-- the steps of a guard without an event of the set are outside it
quiet_outside : (Γ : Environment) (s : Values) (w : Waiting) (p : Tree) (X : EventSet) → IsQuiet Γ s w X → (k : Step Control) → Is k (guard_steps Γ s w p)
    → outside X k.event ≡ true
quiet_outside Γ s ready p X h k i = absurd (h.not_ready refl)
quiet_outside Γ s (output c z) p X h k first = ap not (h.refused (record { chan = record { 0 = c }; dir = Output; value = eval Γ z s }) s (refl, refl))
quiet_outside Γ s (output c z) p X h k (later i) = elim i [ ]
quiet_outside Γ s (input c x) p X h k i =
    let F : ℕ → Step Control = λ v. step (Some (record { chan = record { 0 = c }; dir = Input; value = v })) ((x, v) ∷ []) (unbegun p) in
    let m = mapped_is F k (values_of (channel_width Γ c)) i in
    let P : Step Control → Type 0 = λ j. outside X j.event ≡ true in
    subst P (sym m.2) (ap not (h.refused (record { chan = record { 0 = c }; dir = Input; value = m.0 }) (with_value s x m.0) (m.0, has_value (channel_width Γ c) m.0 m.1, refl, refl)))

at_yes : (b : Bool) {P : Type 0} → b ≡ true → MatchBool b P (Unit {0}) → P
at_yes true e h = h
at_yes false e h = false_not_true e

-- where the set is refused, each step is outside it
refused_outside : (Γ : Environment) (s : Values) (bs : Branches) (X : EventSet) → (guards bs).refuses Γ s X → (k : Step Control) → Is k (branch_steps Γ s bs)
    → outside X k.event ≡ true
refused_outside Γ s no_branch X h k i = elim i [ ]
refused_outside Γ s (and_branch e w p bs) X h k i =
    elim (is_either k (if is_true Γ e s then guard_steps Γ s w p else []) (branch_steps Γ s bs) i) [
      | inl j ↦ (let m = enabled (is_true Γ e s) (guard_steps Γ s w p) k j in quiet_outside Γ s w p X (at_yes (is_true Γ e s) m.0 h.0) k m.1)
      | inr j ↦ refused_outside Γ s bs X h.1 k j
    ]

-- each behaviour of an ALT comes of its steps
alt_at : (Γ : Environment) (s : Values) (bs : Branches) (t : Trace) (o : Outcome) → Alternates (guards bs) Γ s t o
    → Unfolded Control controlled (λ k. Is k (branch_steps Γ s bs)) false Γ s t o
alt_at Γ s bs t o (stable {X = X} h) = waits refl (refused_outside Γ s bs X h)
alt_at Γ s bs t o (taken h) = let m = goes_begins Γ s bs t o h in moves m.by m.rest m.member m.whole m.does

-- the steps of an ALT are all that it can do
pub alt_unfolds : (Γ : Environment) (s : Values) (bs : Branches) → Unfolds Control controlled (λ k. Is k (branch_steps Γ s bs)) false Γ s (alternatives (guards bs))
alt_unfolds Γ s bs = record { comes = alt_at Γ s bs }

-- a guard whose steps are outside the set has no event of it
quiet_from : (Γ : Environment) (s : Values) (w : Waiting) (p : Tree) (X : EventSet) → ((k : Step Control) → Is k (guard_steps Γ s w p) → outside X k.event ≡ true)
    → IsQuiet Γ s w X
quiet_from Γ s ready p X h = false_not_true (h (step None [] (unbegun p)) first)
quiet_from Γ s (output c z) p X h = record {
  not_ready = λ i. absurd (cc);
  refused = λ e u a. let P : Event → Type 0 = λ f. X f ≡ false in
      subst P (sym a.0) (not-true (X (record { chan = record { 0 = c }; dir = Output; value = eval Γ z s })) (h (step (Some (record { chan = record { 0 = c }; dir = Output; value = eval Γ z s })) [] (unbegun p)) first));
}
quiet_from Γ s (input c x) p X h =
    let F : ℕ → Step Control = λ v. step (Some (record { chan = record { 0 = c }; dir = Input; value = v })) ((x, v) ∷ []) (unbegun p) in
    record {
      not_ready = λ i. absurd (cc);
      refused = λ e u a. let P : Event → Type 0 = λ f. X f ≡ false in
          subst P (sym a.2) (not-true (X (record { chan = record { 0 = c }; dir = Input; value = a.0 })) (h (F a.0) (is_mapped F a.0 (values_of (channel_width Γ c)) (value_is (channel_width Γ c) a.0 a.1))));
    }

by_truth : (b : Bool) {P : Type 0} → (b ≡ true → P) → MatchBool b P (Unit {0})
by_truth true h = h refl
by_truth false h = tt

-- a set is refused where each step is outside it
refuses_from : (Γ : Environment) (s : Values) (bs : Branches) (X : EventSet) → ((k : Step Control) → Is k (branch_steps Γ s bs) → outside X k.event ≡ true)
    → (guards bs).refuses Γ s X
refuses_from Γ s no_branch X h = tt
refuses_from Γ s (and_branch e w p bs) X h =
    let ks : List (Step Control) = if is_true Γ e s then guard_steps Γ s w p else [] in (
      by_truth (is_true Γ e s) (λ i. quiet_from Γ s w p X (λ k j. h k (is_left k ks (branch_steps Γ s bs) (enable (is_true Γ e s) (guard_steps Γ s w p) k i j)))),
      refuses_from Γ s bs X (λ k j. h k (is_right k ks (branch_steps Γ s bs) j)),
    )

-- an ALT refuses each set that has no event of a step
pub alt_at_rest : (Γ : Environment) (s : Values) (bs : Branches) → AtRest Control (λ k. Is k (branch_steps Γ s bs)) false Γ s (alternatives (guards bs))
alt_at_rest Γ s bs = record { over = λ i. false_not_true i; refused = λ i X out. stable (refuses_from Γ s bs X out) }
