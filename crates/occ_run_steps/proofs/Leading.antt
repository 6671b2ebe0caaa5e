-- Where a schedule leads: what is done there, the whole does behind the schedule's trace.
use Rattle.occ_meaning.proofs.Facts.{none_not_some, some_is}
use Rattle.occ_run_steps.proofs.Ahead.{seen_more}
use Rattle.occ_run_steps.proofs.KeptSettled.{settled_kept}
use Rattle.occ_run_steps.proofs.Lists.{Is, first, later}
use Rattle.occ_run_steps.proofs.SettledMeans.{settled_means}
use Rattle.occ_run_steps.proofs.StepKeeps.{step_keeps}
use Rattle.occ_run_steps.proofs.Whole.{step_sound}
use Rattle.occ_run_steps.specs.Controlled.{controlled}
use Rattle.occ_run_steps.specs.Control.{Control}
use Rattle.occ_run_steps.specs.Kept.{Kept}
use Rattle.occ_run_steps.specs.Leads.{Leads, at_rest, by_step, stepped}
use Rattle.occ_run_steps.specs.Step.{Step, changed}
use Rattle.occ_run_steps.specs.Steps.{steps}
use Rattle.occ_meaning.specs.occ_syntax.Meaning.{Outcome}
use Rattle.occ_meaning.specs.occ_syntax.Scopes.{Environment, IsState, Trace, Values}
use Rattle.std.proofs.Common.{List, Some, [], refl, subst, suc, zero, ℕ, ◌++◌, ◌∷◌, ◌≡◌}
use Rattle.std.specs.Prelude.{slice_get}

-- the step of a number is one of the list
pub numbered_is : {A : Type 0} (ks : List A) (n : ℕ) (k : A) → slice_get ks n ≡ Some k → Is k ks
numbered_is [] n k h = none_not_some h
numbered_is {A = A} (j ∷ ks) zero k h = let P : A → Type 0 = λ z. Is z (j ∷ ks) in subst P (some_is h) first
numbered_is (j ∷ ks) (suc n) k h = later (numbered_is ks n k h)

-- and each of the list has a number
pub is_numbered : {A : Type 0} (ks : List A) (k : A) → Is k ks → (n : ℕ) × (slice_get ks n ≡ Some k)
is_numbered (j ∷ ks) k first = (0, refl)
is_numbered (j ∷ ks) k (later i) = let m = is_numbered ks k i in (suc m.0, m.1)
is_numbered [] k i = elim i [ ]

-- what a step leaves, settled, keeps the rules
pub stepped_kept : (Γ : Environment) (s : Values) (C : Control) → Kept Γ C → IsState Γ s → (k : Step Control) → Is k (steps Γ s C)
    → Kept Γ (stepped Γ s k) × IsState Γ (changed k.changes s)
stepped_kept Γ s C kept state k i = let h = step_keeps Γ s C kept state k i in (settled_kept Γ (changed k.changes s) k.next h.kept, h.state)

-- a schedule leads to trees that keep the rules, from states to states
pub leads_keeps : (Γ : Environment) (s : Values) (C : Control) (ns : List ℕ) (t : Trace) (s' : Values) (C' : Control) → Kept Γ C → IsState Γ s
    → Leads Γ s C ns t s' C' → Kept Γ C' × IsState Γ s'
leads_keeps Γ s C ns t s' C' kept state at_rest = (kept, state)
leads_keeps Γ s C ns t s' C' kept state (by_step {ns = ms} {t = a} n k e l) =
    let h = stepped_kept Γ s C kept state k (numbered_is (steps Γ s C) n k e) in
    leads_keeps Γ (changed k.changes s) (stepped Γ s k) ms a s' C' h.0 h.1 l

-- what is done where a schedule leads, the whole does behind the schedule's trace
pub leads_sound : (Γ : Environment) (s : Values) (C : Control) (ns : List ℕ) (t : Trace) (s' : Values) (C' : Control) → Kept Γ C → IsState Γ s
    → Leads Γ s C ns t s' C' → (u : Trace) (o : Outcome) → (controlled C').does Γ s' u o → (controlled C).does Γ s (t ++ u) o
leads_sound Γ s C ns t s' C' kept state at_rest u o d = d
leads_sound Γ s C ns t s' C' kept state (by_step {ns = ms} {t = a} n k e l) u o d =
    let i = numbered_is (steps Γ s C) n k e in
    let h = stepped_kept Γ s C kept state k i in
    let r : Values = changed k.changes s in
    let ih = leads_sound Γ r (stepped Γ s k) ms a s' C' h.0 h.1 l u o d in
    let P : Trace → Type 0 = λ z. (controlled C).does Γ s z o in
    subst P (seen_more k.event a u) ((step_sound Γ s C kept state k i).behind (a ++ u) o ((settled_means Γ r k.next).forth (a ++ u) o ih))
