-- The steps of a meaning with a channel of its own: those of the inside that aren't on the channel.
use Rattle.occ_meaning.specs.occ_base.declared.event.Event.{Event}
use Rattle.occ_meaning.specs.occ_base.declared.width.Width.{Width}
use Rattle.occ_meaning.proofs.Facts.{and_second}
use Rattle.occ_run_steps.proofs.Moves.{AtRest, Sound, Unfolded, Unfolds, ends, moves, waits}
use Rattle.occ_run_steps.specs.Step.{Step, changed, off, outside, seen}
use Rattle.occ_meaning.specs.occ_syntax.Meaning.{Meaning, Outcome, WithChannel, ended, is_silent, off_channel, over_channel, refusing}
use Rattle.occ_meaning.specs.occ_syntax.Scopes.{Environment, EventSet, Trace, Values, with_name}
use Rattle.occ_meaning.specs.occ_syntax.declared.scope.Kind.TheVariants.{Chan}
use Rattle.std.proofs.Common.{Bool, List, None, Option, Some, ap, false, not, refl, subst, true, ℕ, ◌&&◌, ◌==◌, ◌≡◌}
use Rattle.std.proofs.lemmas.Bool.{and_from, and_parts, not-true}

silent_seen : (c : ℕ) (v : Option Event) (t : Trace) → off c v ≡ true → is_silent c t ≡ true → is_silent c (seen v t) ≡ true
silent_seen c None t h k = k
silent_seen c (Some e) t h k = and_from (not (e.chan.0 == c)) (is_silent c t) h k

silent_parts : (c : ℕ) (v : Option Event) (t : Trace) → is_silent c (seen v t) ≡ true → (off c v ≡ true) × (is_silent c t ≡ true)
silent_parts c None t h = (refl, h)
silent_parts c (Some e) t h = and_parts (not (e.chan.0 == c)) (is_silent c t) h

hidden_behind : (Γ : Environment) (s : Values) (c : ℕ) (w : Width) (m : Meaning) (v : Option Event) (cs : List (ℕ × ℕ)) (p : Meaning)
    → Sound (with_name Γ c (Chan w None)) s m v cs p → off c v ≡ true
    → (t : Trace) (o : Outcome) → WithChannel c w p Γ (changed cs s) t o → WithChannel c w m Γ s (seen v t) o
hidden_behind Γ s c w m v cs p h apart t o (WithChannel.at_end {s1 = r} silent d) = WithChannel.at_end (silent_seen c v t apart silent) (h.behind t (ended r) d)
hidden_behind Γ s c w m v cs p h apart t o (WithChannel.at_rest {X = X} silent d) = WithChannel.at_rest (silent_seen c v t apart silent) (h.behind t (refusing (off_channel c X)) d)

-- a step off the channel is a step outside
pub hidden_sound : (Γ : Environment) (s : Values) (c : ℕ) (w : Width) (m : Meaning) (v : Option Event) (cs : List (ℕ × ℕ)) (p : Meaning)
    → Sound (with_name Γ c (Chan w None)) s m v cs p → off c v ≡ true → Sound Γ s (over_channel c w m) v cs (over_channel c w p)
hidden_sound Γ s c w m v cs p h apart = record { behind = hidden_behind Γ s c w m v cs p h apart }

-- a step off the channel is outside a set where it is outside the set's part off the channel
off_out : (c : ℕ) (X : EventSet) (v : Option Event) → off c v ≡ true → outside (off_channel c X) v ≡ true → outside X v ≡ true
off_out c X None h k = k
off_out c X (Some e) h k = ap not (and_second (not (e.chan.0 == c)) (X e) (not-true (not (e.chan.0 == c) && X e) k) h)

off_in : (c : ℕ) (X : EventSet) (v : Option Event) → (off c v ≡ true → outside X v ≡ true) → outside (off_channel c X) v ≡ true
off_in c X None h = h refl
off_in c X (Some e) h = by_test (not (e.chan.0 == c)) h
  where
    by_test : (b : Bool) → (b ≡ true → not (X e) ≡ true) → not (b && X e) ≡ true
    by_test true k = k refl
    by_test false k = refl

module _ (A : Type 0) (f : A → Meaning) (M : Step A → Type 0) (d : Bool) (c : ℕ) (w : Width) (Γ : Environment) (s : Values) (m : Meaning) where
  hidden_ended : (t : Trace) (r : Values) → is_silent c t ≡ true → Unfolded A f M d (with_name Γ c (Chan w None)) s t (ended r)
      → Unfolded A (λ a. over_channel c w (f a)) (λ k. M k × (off c k.event ≡ true)) d Γ s t (ended r)
  hidden_ended t r silent (ends i idle) = ends i (λ k j. idle k j.0)
  hidden_ended t r silent (moves k a i e dk) =
      let P : Trace → Type 0 = λ z. is_silent c z ≡ true in
      let j = silent_parts c k.event a (subst P e silent) in
      moves k a (i, j.0) e (WithChannel.at_end j.1 dk)

  hidden_refusing : (t : Trace) (Z X : EventSet) → Z ≡ off_channel c X → is_silent c t ≡ true
      → Unfolded A f M d (with_name Γ c (Chan w None)) s t (refusing Z)
      → Unfolded A (λ a. over_channel c w (f a)) (λ k. M k × (off c k.event ≡ true)) d Γ s t (refusing X)
  hidden_refusing t Z X same silent (waits i out) = waits i (λ k j. let P : EventSet → Type 0 = λ z. outside z k.event ≡ true in off_out c X k.event j.1 (subst P same (out k j.0)))
  hidden_refusing t Z X same silent (moves k a i e dk) =
      let P : Trace → Type 0 = λ z. is_silent c z ≡ true in
      let j = silent_parts c k.event a (subst P e silent) in
      let Q : EventSet → Type 0 = λ z. (f k.next).does (with_name Γ c (Chan w None)) (changed k.changes s) a (refusing z) in
      moves k a (i, j.0) e (WithChannel.at_rest j.1 (subst Q same dk))

  hidden_at : Unfolds A f M d (with_name Γ c (Chan w None)) s m → (t : Trace) (o : Outcome) → WithChannel c w m Γ s t o
      → Unfolded A (λ a. over_channel c w (f a)) (λ k. M k × (off c k.event ≡ true)) d Γ s t o
  hidden_at h t o (WithChannel.at_end {s1 = r} silent e) = hidden_ended t r silent (h.comes t (ended r) e)
  hidden_at h t o (WithChannel.at_rest {X = X} silent e) = hidden_refusing t (off_channel c X) X refl silent (h.comes t (refusing (off_channel c X)) e)

  -- the steps off the channel are all that can be done outside
  pub hidden_unfolds : Unfolds A f M d (with_name Γ c (Chan w None)) s m
      → Unfolds A (λ a. over_channel c w (f a)) (λ k. M k × (off c k.event ≡ true)) d Γ s (over_channel c w m)
  hidden_unfolds h = record { comes = hidden_at h }

  -- outside it rests as inside
  pub hidden_at_rest : AtRest A M d (with_name Γ c (Chan w None)) s m → AtRest A (λ k. M k × (off c k.event ≡ true)) d Γ s (over_channel c w m)
  hidden_at_rest h = record {
    over = λ i. WithChannel.at_end refl (h.over i);
    refused = λ i X out. WithChannel.at_rest refl (h.refused i (off_channel c X) (λ k j. off_in c X k.event (λ apart. out k (j, apart))));
  }
