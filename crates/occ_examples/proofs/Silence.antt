-- An output on a hidden channel that nobody else has.
use Rattle.occ_law.proofs.from_meaning.Facts.{false_not_true}
use Rattle.occ_law.specs.occ_base.declared.event.Event.{Event}
use Rattle.occ_law.specs.occ_syntax.Meaning.{Outcome, Stopped, Taken, at_end, at_event, at_rest, ended, is_silent, meaning, off_channel, refusing, stable, stopped, taken}
use Rattle.occ_law.specs.occ_syntax.Scopes.{Environment, EventSet, Trace, Values}
use Rattle.occ_law.specs.occ_syntax.Tree.{Exp, output, send}
use Rattle.occ_examples.specs.Programs.{c, here, hidden_output, word}
use Rattle.std.proofs.Common.{[], ◌∷◌, ◌≡◌, false, inl, inr, refl, subst, sym, true}

-- the event would be heard
heard : (Γ : Environment) (s : Values) (e : Exp) (t : Trace) (u : Values) (a : Trace) → Taken Γ s (output c e) t u a → is_silent c t ≡ true → ⊥
heard Γ s e t u a (at_event {e = f} {t = b} k) h = (let P : Event → Type 0 = λ g. is_silent c (g ∷ b) ≡ true in false_not_true (subst P k.0 h))

-- it is never taken
waits : (Γ : Environment) (s : Values) (t : Trace) (o : Outcome) → (meaning (send c (word 1))).does Γ s t o → is_silent c t ≡ true
    → (X : EventSet) × (t ≡ []) × (o ≡ refusing X)
waits Γ s t o (stable {X = X} r) h = (X, refl, refl)
waits Γ s t o (taken m) h = elim m [ inl n ↦ absurd (heard Γ s (word 1) t n.1.0 n.1.1 n.1.2 h) | inr n ↦ absurd n ]

pub fails_as_stop : (s : Values) (t : Trace) (X : EventSet) → (meaning hidden_output).does here s t (refusing X) → Stopped t (refusing X)
fails_as_stop s t X (at_rest silent e) = (let P : Trace → Type 0 = λ r. Stopped r (refusing X) in subst P (sym (waits _ s t _ e silent).1) stopped)

pub stop_fails : (s : Values) (t : Trace) (X : EventSet) → Stopped t (refusing X) → (meaning hidden_output).does here s t (refusing X)
stop_fails s t X stopped = at_rest refl (stable (
  record {
    not_ready = λ i. cc;
    refused = λ e u k. (let P : Event → Type 0 = λ f. off_channel c X f ≡ false in subst P (sym k.0) refl);
  },
  tt,
))

pub never_ends : (s : Values) (t : Trace) (r : Values) → (meaning hidden_output).does here s t (ended r) → Stopped t (ended r)
never_ends s t r (at_end {s1 = u} silent e) = absurd (no_end (waits _ s t (ended u) e silent).0 (waits _ s t (ended u) e silent).2)
  where
    no_end : (X : EventSet) → ended u ≡ refusing X → ⊥
    no_end X h = cc

pub stop_never_ends : (s : Values) (t : Trace) (r : Values) → Stopped t (ended r) → (meaning hidden_output).does here s t (ended r)
stop_never_ends s t r h = elim h [ ]
