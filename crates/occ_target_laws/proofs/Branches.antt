-- What an ALT all of whose conditions are TRUE does, by its single branches.
use Rattle.std.proofs.Common.{◌≡◌, List, [], ◌∷◌, refl, sym, subst, inl, inr, ◌⊎◌}
use Rattle.occ_target.specs.occ_base.declared.event.Event.{Event}
use Rattle.occ_target.specs.occ_syntax.Meaning.{After, Alternates, IsQuiet, Outcome, Taken, at_event, at_ready, guards, meaning, refusing, stable, taken}
use Rattle.occ_target.specs.occ_syntax.Scopes.{Environment, EventSet, Trace, Values}
use Rattle.occ_target.specs.occ_syntax.Tree.{Tree, Waiting, ready}
use Rattle.occ_target.specs.occ_nform_table.Lists.{In}
use Rattle.occ_target.specs.Rows.{guarded}

-- the guard is taken, and the process behind it goes on
abbrev pub Takes : Environment → Values → Waiting × Tree → Trace → Outcome → Type 0
Takes Γ s b t o = (u : Values) × (a : Trace) × Taken Γ s b.0 t u a × (meaning b.1).does Γ u a o

module _ (Γ : Environment) (s : Values) where
  goes_out : (bs : List (Waiting × Tree)) (t : Trace) (o : Outcome) → (guards (guarded bs)).goes Γ s t o → (b : Waiting × Tree) × In b bs × Takes Γ s b t o
  goes_out [] t o d = absurd d
  goes_out (c ∷ bs) t o d = elim d [ inl k ↦ (c, inl refl, k.1) | inr k ↦ (let g = goes_out bs t o k in (g.0, inr g.1, g.2)) ]

  goes_in : (bs : List (Waiting × Tree)) (t : Trace) (o : Outcome) (b : Waiting × Tree) → In b bs → Takes Γ s b t o → (guards (guarded bs)).goes Γ s t o
  goes_in [] t o b i k = absurd i
  goes_in (c ∷ bs) t o b (inl e) k = inl (refl, subst (λ (x : Waiting × Tree). Takes Γ s x t o) e k)
  goes_in (c ∷ bs) t o b (inr i) k = inr (goes_in bs t o b i k)

  quiet_out : (X : EventSet) (bs : List (Waiting × Tree)) → (guards (guarded bs)).refuses Γ s X → (b : Waiting × Tree) → In b bs → IsQuiet Γ s b.0 X
  quiet_out X [] d b i = absurd i
  quiet_out X (c ∷ bs) d b (inl e) = subst (λ (x : Waiting × Tree). IsQuiet Γ s x.0 X) (sym e) d.0
  quiet_out X (c ∷ bs) d b (inr i) = quiet_out X bs d.1 b i

  quiet_in : (X : EventSet) (bs : List (Waiting × Tree)) → ((b : Waiting × Tree) → In b bs → IsQuiet Γ s b.0 X) → (guards (guarded bs)).refuses Γ s X
  quiet_in X [] h = tt
  quiet_in X (c ∷ bs) h = (h c (inl refl), quiet_in X bs (λ b i. h b (inr i)))

  -- before any event it is stable, or a branch is taken
  pub alt_takes : (bs : List (Waiting × Tree)) (t : Trace) (o : Outcome) → Alternates (guards (guarded bs)) Γ s t o
      → ((X : EventSet) × (t ≡ []) × (o ≡ refusing X) × ((b : Waiting × Tree) → In b bs → IsQuiet Γ s b.0 X)) ⊎ ((b : Waiting × Tree) × In b bs × Takes Γ s b t o)
  alt_takes bs t o (stable {X = X} d) = inl (X, refl, refl, quiet_out X bs d)
  alt_takes bs t o (taken d) = inr (goes_out bs t o d)

  pub alt_waits : (bs : List (Waiting × Tree)) (X : EventSet) → ((b : Waiting × Tree) → In b bs → IsQuiet Γ s b.0 X) → Alternates (guards (guarded bs)) Γ s [] (refusing X)
  alt_waits bs X h = stable (quiet_in X bs h)

  pub alt_goes : (bs : List (Waiting × Tree)) (t : Trace) (o : Outcome) (b : Waiting × Tree) → In b bs → Takes Γ s b t o → Alternates (guards (guarded bs)) Γ s t o
  alt_goes bs t o b i k = taken (goes_in bs t o b i k)

  taken_cases : (w : Waiting) (t : Trace) (u : Values) (a : Trace) → Taken Γ s w t u a
      → ((w ≡ ready) × (t ≡ a) × (u ≡ s)) ⊎ ((e : Event) × (t ≡ e ∷ a) × After Γ s w e u)
  taken_cases w t u a at_ready = inl (refl, refl, refl)
  taken_cases w t u a (at_event {e = e} k) = inr (e, refl, k)

  -- a guard that is ready is taken without an event
  pub ready_takes : (p : Tree) (t : Trace) (o : Outcome) → Takes Γ s (ready, p) t o → (meaning p).does Γ s t o
  ready_takes p t o k =
      let P : Values → Type 0 = λ r. (meaning p).does Γ r k.1 o in
      let Q : Trace → Type 0 = λ r. (meaning p).does Γ s r o in
      elim (taken_cases ready t k.0 k.1 k.2) [ inl j ↦ subst Q (sym j.1) (subst P j.2 k.3) | inr j ↦ absurd j.2 ]

  -- another guard is taken by an event
  pub event_takes : (b : Waiting × Tree) (t : Trace) (o : Outcome) → Takes Γ s b t o → (b.0 ≡ ready → ⊥)
      → (e : Event) × (a : Trace) × (u : Values) × (t ≡ e ∷ a) × After Γ s b.0 e u × (meaning b.1).does Γ u a o
  event_takes b t o k not_ready = elim (taken_cases b.0 t k.0 k.1 k.2) [ inl j ↦ absurd (not_ready j.0) | inr j ↦ (j.0, k.1, k.0, j.1, j.2, k.3) ]
