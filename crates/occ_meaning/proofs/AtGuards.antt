-- Lists of guards compared from one state each.
use Rattle.occ_syntax.specs.occ_base.declared.event.Event.{Event}
use Rattle.occ_meaning.proofs.Facts.{both}
use Rattle.occ_meaning.proofs.AtState.{AlikeAt}
use Rattle.occ_syntax.specs.Eval.{is_true}
use Rattle.occ_syntax.specs.Meaning.{After, Alternates, Guards, IsQuiet, Meaning, Outcome, Taken, alternatives, and_guard, no_guard, stable, taken}
use Rattle.occ_syntax.specs.Scopes.{Environment, EventSet, Trace, Values}
use Rattle.occ_syntax.specs.Tree.{Exp, Waiting, ready}
use Rattle.std.proofs.Common.{Bool, MatchBool, inl, inr, subst, sym, ◌∙◌, ◌≡◌}

-- a guard is taken, and the process behind it goes on
abbrev pub Steps : Environment → Values → Waiting → Meaning → Trace → Outcome → Type 0
Steps Γ s w m t o = (u : Values) × (a : Trace) × Taken Γ s w t u a × m.does Γ u a o

pub record GuardsAt (Γ : Environment) (s r : Values) (g h : Guards) : Type 0 where
  pub first : (X : EventSet) → g.refuses Γ s X → h.refuses Γ r X
  pub later : (t : Trace) (o : Outcome) → g.goes Γ s t o → h.goes Γ r t o

pub no_guard_at : (Γ : Environment) (s r : Values) → GuardsAt Γ s r no_guard no_guard
no_guard_at Γ s r = record { first = λ X d. d; later = λ t o d. d }

pub and_guard_at : (Γ : Environment) (s r : Values) (e f : Exp) (w v : Waiting) (m n : Meaning) (g h : Guards)
    → is_true Γ e s ≡ is_true Γ f r
    → ((X : EventSet) → IsQuiet Γ s w X → IsQuiet Γ r v X)
    → ((t : Trace) (o : Outcome) → Steps Γ s w m t o → Steps Γ r v n t o)
    → GuardsAt Γ s r g h → GuardsAt Γ s r (and_guard e w m g) (and_guard f v n h)
and_guard_at Γ s r e f w v m n g h same quiet steps rest = record {
  first = λ X d. (
    let P : Bool → Type 0 = λ b. MatchBool b (IsQuiet Γ r v X) (Unit {0}) in subst P same (both (is_true Γ e s) (quiet X) (λ k. k) d.0),
    rest.first X d.1,
  );
  later = λ t o d. elim d [ inl k ↦ inl (sym same ∙ k.0, steps t o k.1) | inr k ↦ inr (rest.later t o k) ];
}

alternates_at : (Γ : Environment) (s r : Values) (g h : Guards) → GuardsAt Γ s r g h → (t : Trace) (o : Outcome)
    → Alternates g Γ s t o → Alternates h Γ r t o
alternates_at Γ s r g h k t o (stable {X = X} d) = stable (k.first X d)
alternates_at Γ s r g h k t o (taken d) = taken (k.later t o d)

pub alternatives_alike : (Γ : Environment) (s r : Values) (g h : Guards) → GuardsAt Γ s r g h → GuardsAt Γ r s h g
    → AlikeAt Γ s r (alternatives g) (alternatives h)
alternatives_alike Γ s r g h there here = record { forth = alternates_at Γ s r g h there; back = alternates_at Γ r s h g here }

-- where each event of the second guard is one of the first, the second is quiet where the first is
pub quiet_along : (Γ : Environment) (s r : Values) (w v : Waiting) → (v ≡ ready → w ≡ ready)
    → ((e : Event) (u : Values) → After Γ r v e u → (z : Values) × After Γ s w e z)
    → (X : EventSet) → IsQuiet Γ s w X → IsQuiet Γ r v X
quiet_along Γ s r w v h after X q = record {
  not_ready = λ i. q.not_ready (h i);
  refused = λ e u a. (let k = after e u a in q.refused e k.0 k.1);
}
