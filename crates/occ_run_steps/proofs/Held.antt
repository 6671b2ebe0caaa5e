-- The steps of a meaning with a variable that holds a value: those of the inside, without what they change of the variable.
use Rattle.occ_meaning.specs.occ_base.declared.event.Event.{Event}
use Rattle.occ_meaning.specs.occ_base.declared.width.Width.{Width}
use Rattle.occ_meaning.proofs.OffValues.{value_again, value_back}
use Rattle.occ_run_steps.proofs.Changes.{changed_at, changed_inside}
use Rattle.occ_run_steps.proofs.Moves.{AtRest, Sound, Unfolded, Unfolds, ends, moves, waits}
use Rattle.occ_run_steps.specs.Controlled.{Holding, holding}
use Rattle.occ_run_steps.specs.Step.{Step, changed, changes_but, outside, seen, step}
use Rattle.occ_meaning.specs.occ_syntax.Meaning.{Meaning, Outcome, ended, refusing}
use Rattle.occ_meaning.specs.occ_syntax.Scopes.{Environment, EventSet, Trace, Values, with_name, with_value}
use Rattle.occ_meaning.specs.occ_syntax.declared.scope.Kind.TheVariants.{Var}
use Rattle.std.proofs.Common.{Bool, List, Option, [], ap, subst, sym, true, ℕ, ◌∙◌, ◌≡◌}

-- what is done behind a step inside, is done with it outside
held_behind : (Γ : Environment) (s : Values) (x : ℕ) (w : Width) (v : ℕ) (m : Meaning) (u : Option Event) (cs : List (ℕ × ℕ)) (p : Meaning)
    → Sound (with_name Γ x (Var w)) (with_value s x v) m u cs p → (t : Trace) (o : Outcome)
    → Holding x w (changed cs (with_value s x v) x) p Γ (changed (changes_but x cs) s) t o → Holding x w v m Γ s (seen u t) o
held_behind Γ s x w v m u cs p h t o (Holding.at_end s1 e d) =
    let P : Values → Type 0 = λ r. p.does (with_name Γ x (Var w)) r t (ended s1) in
    Holding.at_end s1 (e ∙ ap (with_value s1 x) (changed_at cs s x)) (h.behind t (ended s1) (subst P (changed_inside cs s x v) d))
held_behind Γ s x w v m u cs p h t o (Holding.at_rest {X = X} d) =
    let P : Values → Type 0 = λ r. p.does (with_name Γ x (Var w)) r t (refusing X) in
    Holding.at_rest (h.behind t (refusing X) (subst P (changed_inside cs s x v) d))

-- a step inside is a step outside, without its changes of the variable
pub held_sound : (Γ : Environment) (s : Values) (x : ℕ) (w : Width) (v : ℕ) (m : Meaning) (u : Option Event) (cs : List (ℕ × ℕ)) (p : Meaning)
    → Sound (with_name Γ x (Var w)) (with_value s x v) m u cs p
    → Sound Γ s (holding x w v m) u (changes_but x cs) (holding x w (changed cs (with_value s x v) x) p)
held_sound Γ s x w v m u cs p h = record { behind = held_behind Γ s x w v m u cs p h }

-- a step of the inside as the outside sees it, with the value that the variable comes to hold
abbrev pub inside : {A : Type 0} → ℕ → Values → Step A → Step (ℕ × A)
inside x u k = step k.event (changes_but x k.changes) (changed k.changes u x, k.next)

module _ (A : Type 0) (f : A → Meaning) (M : Step A → Type 0) (N : Step (ℕ × A) → Type 0) (d : Bool) (x : ℕ) (w : Width) (v : ℕ) (Γ : Environment) (s : Values)
    (m : Meaning) (into : (k : Step A) → M k → N (inside x (with_value s x v) k)) (from : (j : Step (ℕ × A)) → N j → (k : Step A) × M k × (j.event ≡ k.event)) where
  -- no step inside, none outside
  held_idle : ((k : Step A) → M k → ⊥) → (j : Step (ℕ × A)) → N j → ⊥
  held_idle idle j i = idle (from j i).0 (from j i).1

  -- steps outside a set are so on both sides
  held_outside : (X : EventSet) → ((k : Step A) → M k → outside X k.event ≡ true) → (j : Step (ℕ × A)) → N j → outside X j.event ≡ true
  held_outside X out j i = let P : Option Event → Type 0 = λ u. outside X u ≡ true in subst P (sym (from j i).2) (out (from j i).0 (from j i).1)

  -- the values inside are those outside, with what the variable holds
  held_next : (k : Step A) (t : Trace) (o : Outcome) → (f k.next).does (with_name Γ x (Var w)) (changed k.changes (with_value s x v)) t o
      → (f k.next).does (with_name Γ x (Var w)) (with_value (changed (changes_but x k.changes) s) x (changed k.changes (with_value s x v) x)) t o
  held_next k t o e = let P : Values → Type 0 = λ r. (f k.next).does (with_name Γ x (Var w)) r t o in subst P (sym (changed_inside k.changes s x v)) e

  -- where the inside ends
  held_ended : (t : Trace) (r s1 : Values) → r ≡ with_value s1 x (s x) → Unfolded A f M d (with_name Γ x (Var w)) (with_value s x v) t (ended s1)
      → Unfolded (ℕ × A) (λ b. holding x w b.0 (f b.1)) N d Γ s t (ended r)
  held_ended t r s1 e (ends i idle) =
      let P : Values → Type 0 = λ z. Unfolded (ℕ × A) (λ b. holding x w b.0 (f b.1)) N d Γ s [] (ended z) in
      subst P (sym (e ∙ (value_again s x v (s x) ∙ value_back s x))) (ends i (held_idle idle))
  held_ended t r s1 e (moves k a i same dk) =
      moves (inside x (with_value s x v) k) a (into k i) same
      (Holding.at_end s1 (e ∙ ap (with_value s1 x) (sym (changed_at k.changes s x))) (held_next k a (ended s1) dk))

  -- where the inside refuses
  held_refusing : (t : Trace) (X : EventSet) → Unfolded A f M d (with_name Γ x (Var w)) (with_value s x v) t (refusing X)
      → Unfolded (ℕ × A) (λ b. holding x w b.0 (f b.1)) N d Γ s t (refusing X)
  held_refusing t X (waits i out) = waits i (held_outside X out)
  held_refusing t X (moves k a i same dk) = moves (inside x (with_value s x v) k) a (into k i) same (Holding.at_rest (held_next k a (refusing X) dk))

  -- each behaviour outside comes of a step inside
  held_at : Unfolds A f M d (with_name Γ x (Var w)) (with_value s x v) m → (t : Trace) (o : Outcome) → Holding x w v m Γ s t o
      → Unfolded (ℕ × A) (λ b. holding x w b.0 (f b.1)) N d Γ s t o
  held_at h t o (Holding.at_end {s' = r} s1 e dm) = held_ended t r s1 e (h.comes t (ended s1) dm)
  held_at h t o (Holding.at_rest {X = X} dm) = held_refusing t X (h.comes t (refusing X) dm)

  -- the steps inside are all that can be done outside
  pub held_unfolds : Unfolds A f M d (with_name Γ x (Var w)) (with_value s x v) m
      → Unfolds (ℕ × A) (λ b. holding x w b.0 (f b.1)) N d Γ s (holding x w v m)
  held_unfolds h = record { comes = held_at h }

  -- outside it rests as inside
  pub held_at_rest : AtRest A M d (with_name Γ x (Var w)) (with_value s x v) m → AtRest (ℕ × A) N d Γ s (holding x w v m)
  held_at_rest h = record {
    over = λ i. Holding.at_end (with_value s x v) (sym (value_again s x v (s x) ∙ value_back s x)) (h.over i);
    refused = λ i X out. Holding.at_rest (h.refused i X (λ k j. out (inside x (with_value s x v) k) (into k j)));
  }
