-- What ALTs do and refuse before any event.
use Rattle.occ_law.proofs.from_meaning.Facts.{false_not_true}
use Rattle.occ_law.specs.occ_base.declared.event.Event.{Event}
use Rattle.occ_law.specs.occ_syntax.Meaning.{Meaning, Outcome, Taken, at_event, at_ready, ended, meaning, refusing, stable, taken}
use Rattle.occ_law.specs.occ_syntax.Scopes.{Environment, EventSet, Trace, Values}
use Rattle.occ_law.specs.occ_syntax.Tree.{Waiting, output, ready, send}
use Rattle.occ_examples.specs.Programs.{beside_ready, c, d, here, inside_chooses, output_of, outside_chooses, word}
use Rattle.std.proofs.Common.{[], ◌≡◌, false, inl, inr, refl, subst, sym, true, ℕ, ◌∙◌}

-- a guard that is no SKIP isn't taken before any event
event_first : (Γ : Environment) (s : Values) (w : Waiting) (t : Trace) (u : Values) (a : Trace) → Taken Γ s w t u a → t ≡ [] → (w ≡ ready → ⊥) → ⊥
event_first Γ s w t u a at_ready e h = h refl
event_first Γ s w t u a (at_event k) e h = cc

-- what is done behind a ready guard is done at once
ready_goes : (Γ : Environment) (s : Values) (m : Meaning) (t : Trace) (u : Values) (a : Trace) (o : Outcome) → Taken Γ s ready t u a
    → m.does Γ u a o → m.does Γ s t o
ready_goes Γ s m t u a o at_ready e = e
ready_goes Γ s m t u a o (at_event k) e = absurd k

-- an output refuses what doesn't hold its event
pub send_waits : (s : Values) (chan v : ℕ) (X : EventSet) → X (output_of chan v) ≡ false → (meaning (send chan (word v))).does here s [] (refusing X)
send_waits s chan v X h = stable (
  record {
    not_ready = λ i. cc;
    refused = λ e u k. (let P : Event → Type 0 = λ f. X f ≡ false in subst P (sym k.0) h);
  },
  tt,
)

pub send_needs : (s : Values) (chan v : ℕ) (t : Trace) (X : EventSet) → (meaning (send chan (word v))).does here s t (refusing X) → t ≡ []
    → X (output_of chan v) ≡ false
send_needs s chan v t X (stable r) h = r.0.refused (output_of chan v) s (refl, refl)
send_needs s chan v t X (taken m) h = elim m [
  | inl n ↦ absurd (event_first here s (output chan (word v)) t n.1.0 n.1.1 n.1.2 h (λ i. cc))
  | inr n ↦ absurd n
]

-- who chooses inside refuses no set that holds both outputs
pub inside_needs : (s : Values) (t : Trace) (X : EventSet) → (meaning inside_chooses).does here s t (refusing X) → t ≡ []
    → X (output_of c 1) ≡ true → X (output_of d 1) ≡ true → ⊥
inside_needs s t X (stable r) h k l = r.0.not_ready refl
inside_needs s t X (taken m) h k l = elim m [
  | inl n ↦ false_not_true (sym (send_needs s c 1 t X (ready_goes here s (meaning (send c (word 1))) t n.1.0 n.1.1 (refusing X) n.1.2 n.1.3) h) ∙ k)
  | inr n ↦ elim n [
    | inl i ↦ false_not_true (sym (send_needs s d 1 t X (ready_goes here s (meaning (send d (word 1))) t i.1.0 i.1.1 (refusing X) i.1.2 i.1.3) h) ∙ l)
    | inr i ↦ i
  ]
]

-- who leaves the choice to the outside refuses neither
pub outside_needs : (s : Values) (t : Trace) (X : EventSet) → (meaning outside_chooses).does here s t (refusing X) → t ≡ []
    → (X (output_of c 1) ≡ false) × (X (output_of d 1) ≡ false)
outside_needs s t X (stable r) h = (r.0.refused (output_of c 1) s (refl, refl), r.1.0.refused (output_of d 1) s (refl, refl))
outside_needs s t X (taken m) h = elim m [
  | inl n ↦ absurd (event_first here s (output c (word 1)) t n.1.0 n.1.1 n.1.2 h (λ i. cc))
  | inr n ↦ elim n [
    | inl i ↦ absurd (event_first here s (output d (word 1)) t i.1.0 i.1.1 i.1.2 h (λ j. cc))
    | inr i ↦ absurd i
  ]
]

-- beside a ready guard nothing is refused
pub never_refuses : (s : Values) (t : Trace) (X : EventSet) → (meaning beside_ready).does here s t (refusing X) → t ≡ [] → ⊥
never_refuses s t X (stable r) h = r.1.0.not_ready refl
never_refuses s t X (taken m) h = elim m [
  | inl n ↦ event_first here s _ t n.1.0 n.1.1 n.1.2 h (λ i. cc)
  | inr n ↦ elim n [ inl i ↦ refusing_ends i.1.0 i.1.3.1 | inr i ↦ i ]
]
  where
    refusing_ends : (r : Values) → refusing X ≡ ended r → ⊥
    refusing_ends r e = cc
