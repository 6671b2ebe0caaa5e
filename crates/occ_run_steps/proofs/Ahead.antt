-- The steps of a meaning that another follows: those of the first, as long as that isn't over.
use Rattle.occ_meaning.specs.occ_base.declared.event.Event.{Event}
use Rattle.occ_meaning.proofs.Facts.{false_not_true}
use Rattle.occ_run_steps.proofs.Moves.{AtRest, Sound, Unfolded, Unfolds, ends, moves, waits}
use Rattle.occ_run_steps.specs.Step.{Step, changed, seen}
use Rattle.occ_meaning.specs.occ_syntax.Meaning.{Followed, Meaning, Outcome, ended, followed, in_first, in_second, refusing}
use Rattle.occ_meaning.specs.occ_syntax.Scopes.{Environment, EventSet, Trace, Values}
use Rattle.std.proofs.Common.{List, None, Option, Some, ap, false, refl, sym, ℕ, ◌++◌, ◌∙◌, ◌≡◌}

-- a seen event stands in front of both parts of a trace
pub seen_more : (v : Option Event) (a b : Trace) → seen v (a ++ b) ≡ seen v a ++ b
seen_more None a b = refl
seen_more (Some e) a b = refl

-- what both do behind a step of the first, both do with it
ahead_behind : (Γ : Environment) (s : Values) (m n : Meaning) (v : Option Event) (cs : List (ℕ × ℕ)) (p : Meaning) → Sound Γ s m v cs p
    → (t : Trace) (o : Outcome) → Followed p n Γ (changed cs s) t o → Followed m n Γ s (seen v t) o
ahead_behind Γ s m n v cs p h t o (in_first {X = X} d) = in_first (h.behind t (refusing X) d)
ahead_behind Γ s m n v cs p h t o (in_second t1 t2 s1 e d1 d2) = in_second (seen v t1) t2 s1 (ap (seen v) e ∙ seen_more v t1 t2) (h.behind t1 (ended s1) d1) d2

-- a step of the first is a step of both
pub ahead_sound : (Γ : Environment) (s : Values) (m n : Meaning) (v : Option Event) (cs : List (ℕ × ℕ)) (p : Meaning) → Sound Γ s m v cs p
    → Sound Γ s (followed m n) v cs (followed p n)
ahead_sound Γ s m n v cs p h = record { behind = ahead_behind Γ s m n v cs p h }

module _ (A : Type 0) (f : A → Meaning) (M : Step A → Type 0) (Γ : Environment) (s : Values) (m n : Meaning) where
  -- the first stands still, or moves
  ahead_refusing : (t : Trace) (X : EventSet) → Unfolded A f M false Γ s t (refusing X) → Unfolded A (λ a. followed (f a) n) M false Γ s t (refusing X)
  ahead_refusing t X (waits i out) = waits i out
  ahead_refusing t X (moves k a i e d) = moves k a i e (in_first d)

  -- the first has moved where it ends later on
  ahead_ended : (t1 t2 t : Trace) (s1 : Values) (o : Outcome) → t ≡ t1 ++ t2 → n.does Γ s1 t2 o → Unfolded A f M false Γ s t1 (ended s1)
      → Unfolded A (λ a. followed (f a) n) M false Γ s t o
  ahead_ended t1 t2 t s1 o e d2 (ends i idle) = false_not_true i
  ahead_ended t1 t2 t s1 o e d2 (moves k a i same d) =
      moves k (a ++ t2) i (e ∙ (ap (λ r. r ++ t2) same ∙ sym (seen_more k.event a t2))) (in_second a t2 s1 refl d d2)

  -- each behaviour comes of the steps of the first
  ahead_at : Unfolds A f M false Γ s m → (t : Trace) (o : Outcome) → Followed m n Γ s t o → Unfolded A (λ a. followed (f a) n) M false Γ s t o
  ahead_at h t o (in_first {X = X} d) = ahead_refusing t X (h.comes t (refusing X) d)
  ahead_at h t o (in_second t1 t2 s1 e d1 d2) = ahead_ended t1 t2 t s1 o e d2 (h.comes t1 (ended s1) d1)

  -- the steps of the first are all that both can do
  pub ahead_unfolds : Unfolds A f M false Γ s m → Unfolds A (λ a. followed (f a) n) M false Γ s (followed m n)
  ahead_unfolds h = record { comes = ahead_at h }

  -- both rest as the first does
  pub ahead_at_rest : AtRest A M false Γ s m → AtRest A M false Γ s (followed m n)
  ahead_at_rest h = record { over = λ i. false_not_true i; refused = λ i X out. in_first (h.refused i X out) }
