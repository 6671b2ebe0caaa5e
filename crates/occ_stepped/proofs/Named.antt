-- The channels of the steps of a machine are names of its parameters.
use Rattle.std.proofs.Common.{◌≡◌, ◌<◌, ◌==◌, ℕ, Bool, true, false, cond, List, [], ◌∷◌, Option, None, Some, length, map, refl, sym, subst}
use Rattle.std.proofs.Math.Logic.{∥∥₁_elim}
use Rattle.std.proofs.lemmas.Bool.{eqb-true}
use Rattle.std.proofs.lemmas.List.Elements.{All-cons, All-nil, recursion_from_All}
use Rattle.std.specs.List.{All, AllByRecursion}
use Rattle.occ_run.proofs.from_meaning.Facts.{false_not_true}
use Rattle.occ_run.proofs.from_run_steps.Lists.{Is, first, later}
use Rattle.occ_run.proofs.from_run_steps.StepKeeps.{step_keeps}
use Rattle.occ_run.specs.Configurations.{move_of}
use Rattle.occ_run.specs.occ_run_steps.Control.{Control}
use Rattle.occ_run.specs.occ_run_steps.Kept.{Kept}
use Rattle.occ_run.specs.occ_run_steps.Step.{Step}
use Rattle.occ_run.specs.occ_run_steps.Steps.{steps}
use Rattle.occ_syntax.specs.occ_base.declared.event.Event.{Event}
use Rattle.occ_syntax.specs.occ_base.declared.names.Name.{Name}
use Rattle.occ_syntax.specs.declared.scope.Kind.{Kind}
use Rattle.occ_syntax.specs.Scopes.{IsState, Values, channel_kind, channel_width, environment, has_width, in_scope}
use Rattle.occ_place.specs.Steps.{MoveIsNamed}
use Rattle.std.proofs.Math.Bool.{Bool-set}

module _ (n : ℕ) where
  abbrev Declared : List (Name × Kind) → Type 0
  Declared ps = AllByRecursion (λ (entry : Name × Kind). entry.0.0 < n) ps

  by_first : (c v : ℕ) (entry : Name × Kind) (ps : List (Name × Kind)) → entry.0.0 < n → (has_width (channel_width (environment ps) c) v ≡ true → c < n)
      → (b : Bool) → (c == entry.0.0) ≡ b → has_width (channel_kind (cond b (Some entry.1) (environment ps c))) v ≡ true → c < n
  by_first c v entry ps small rest true e h = subst (λ m. m < n) (sym (eqb-true c entry.0.0 e)) small
  by_first c v entry ps small rest false e h = rest h

  -- a channel in the scope of parameters is one of them
  channel_named : (ps : List (Name × Kind)) → Declared ps → (c v : ℕ) → has_width (channel_width (environment ps) c) v ≡ true → c < n
  channel_named [] all c v h = false_not_true h
  channel_named (entry ∷ ps) all c v h = by_first c v entry ps all.0 (channel_named ps all.1 c v) (c == entry.0.0) refl h

module _ (names : List (List ℕ)) (ps : List (Name × Kind)) (known : All (λ (entry : Name × Kind). entry.0.0 < length names) ps) where
  one_named : (v : Option Event) → ((e : Event) → v ≡ Some e → in_scope (environment ps) e ≡ true) → MoveIsNamed names (move_of v)
  one_named None h = tt
  one_named (Some e) h = channel_named (length names) ps (recursion_from_All (λ (entry : Name × Kind). entry.0.0 < length names) ps known) e.chan.0 e.value (h e refl)

  each_named : (ks : List (Step Control)) → ((k : Step Control) → Is k ks → (e : Event) → k.event ≡ Some e → in_scope (environment ps) e ≡ true)
      → All (MoveIsNamed names) (map (λ k. move_of k.event) ks)
  each_named [] h = All-nil (MoveIsNamed names)
  each_named (k ∷ ks) h = All-cons (MoveIsNamed names) (move_of k.event) (map (λ j. move_of j.event) ks) (one_named k.event (h k first)) (each_named ks (λ j i. h j (later i)))

  -- what is seen of the steps of a control tree in the scope of parameters that have names
  pub steps_named : (s : Values) (C : Control) → ∥ Kept (environment ps) C ∥₁ → IsState (environment ps) s → All (MoveIsNamed names) (map (λ k. move_of k.event) (steps (environment ps) s C))
  steps_named s C kept state = each_named (steps (environment ps) s C)
      (λ k i e seen. ∥∥₁_elim kept (Bool-set _ _) (λ h. (step_keeps (environment ps) s C h state k i).scope e seen))
