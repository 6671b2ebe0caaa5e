-- Each step of a control tree that keeps the rules is sound, and the steps of a settled tree are all that it can do.
use Rattle.occ_meaning.specs.occ_base.Event.{counterpart}
use Rattle.occ_meaning.specs.occ_base.declared.event.Event.{Event}
use Rattle.occ_meaning.specs.occ_base.declared.width.Width.{Width}
use Rattle.occ_meaning.specs.occ_base.Width.{bits_of}
use Rattle.occ_meaning.proofs.Facts.{false_not_true, same_events}
use Rattle.occ_meaning.proofs.States.{connected_state, declared_state}
use Rattle.occ_run_steps.proofs.Ahead.{ahead_at_rest, ahead_sound, ahead_unfolds}
use Rattle.occ_run_steps.proofs.Held.{held_at_rest, held_sound, held_unfolds, inside}
use Rattle.occ_run_steps.proofs.KeptSettled.{first_kept, rest_kept}
use Rattle.occ_run_steps.proofs.Lists.{Is, filtered_is, is_filtered, is_mapped, mapped_is}
use Rattle.occ_run_steps.proofs.Moves.{AtRest, Sound, Unfolded, Unfolds, ends, moves, waits}
use Rattle.occ_run_steps.proofs.OffChannel.{hidden_at_rest, hidden_sound, hidden_unfolds}
use Rattle.occ_run_steps.proofs.Stepping.{AllIs, Which, both_aside_of, clear_of, first_aside_of, leaving_rests, leaving_unfolds, of_one, of_rest, of_two, offers_of, one_member, rest_member, second_aside_of, two_member, which}
use Rattle.occ_run_steps.proofs.Two.{TwoUnfolded, both_end, both_move, both_wait, first_moves, first_sound, meeting_sound, second_moves, second_sound, two_at_rest, two_over, two_unfolds}
use Rattle.occ_run_steps.proofs.Waiting.{Stepping, over_stepping, process_sound, process_stepping}
use Rattle.occ_run_steps.specs.Controlled.{all_controlled, controlled, holding}
use Rattle.occ_run_steps.specs.Control.{Control, Controls, after, all_done, and_control, both, channel, done, is_done, local, no_control, unbegun}
use Rattle.occ_run_steps.specs.Kept.{Kept, types_held}
use Rattle.occ_run_steps.specs.Settled.{all_are_settled, is_settled}
use Rattle.occ_run_steps.specs.Step.{Step, answers, is_event, is_off, joint, leaving, off, outside}
use Rattle.occ_run_steps.specs.Steps.{alone_steps, pair_steps, steps, within}
use Rattle.occ_meaning.specs.occ_syntax.Meaning.{Meaning, Outcome, beside, ended, followed, in_turn, over_channel}
use Rattle.occ_meaning.specs.occ_syntax.Scopes.{Environment, EventSet, IsState, Trace, Values, with_name, with_value}
use Rattle.occ_meaning.specs.occ_syntax.Tree.{Trees}
use Rattle.occ_meaning.specs.occ_syntax.Types.{all_types_kept, can_declare}
use Rattle.occ_meaning.specs.occ_syntax.declared.scope.Kind.TheVariants.{Chan, Var}
use Rattle.std.proofs.Common.{Bool, List, None, Option, Some, [], ap, false, map, nat_lt, not, refl, subst, sym, true, ℕ, ◌&&◌, ◌++◌, ◌<◌, ◌^◌, ◌≡◌}
use Rattle.std.proofs.lemmas.Bool.{and_parts, ltb-true, not-true}
use Rattle.std.specs.List.{filter, list_any}

answered_event : (u v : Option Event) → answers u v ≡ true → (e : Event) × (u ≡ Some e) × (v ≡ Some (counterpart e))
answered_event None v h = false_not_true h
answered_event (Some e) None h = false_not_true h
answered_event (Some e) (Some f) h = (e, refl, ap Some (same_events f (counterpart e) h))

-- ---- each step is sound

two_sound : (Γ : Environment) (s : Values) (C : Control) (Cs : Controls) → Kept Γ (both (and_control C Cs)) → IsState Γ s
    → ((k : Step Control) → Is k (steps Γ s C) → Sound Γ s (controlled C) k.event k.changes (controlled k.next))
    → ((l : Step Controls) → AllIs Γ s Cs l → Sound Γ s (all_controlled Cs) l.event l.changes (all_controlled l.next))
    → (j : Step Controls) → Which Γ s C Cs j → Sound Γ s (beside (controlled C) (all_controlled Cs)) j.event j.changes (all_controlled j.next)
two_sound Γ s C Cs kept state h hs j (of_one k i) =
    first_sound Γ s (controlled C) (all_controlled Cs) k.event k.changes (controlled k.next) (h k i) (first_aside_of Γ s C Cs kept state k i)
two_sound Γ s C Cs kept state h hs j (of_rest l i) =
    second_sound Γ s (controlled C) (all_controlled Cs) l.event l.changes (all_controlled l.next) (hs l i) (second_aside_of Γ s C Cs kept state l i)
two_sound Γ s C Cs kept state h hs j (of_two k l i n a) =
    let e = answered_event k.event l.event a in
    let P : Option Event → Type 0 = λ v. Sound Γ s (controlled C) v k.changes (controlled k.next) in
    let Q : Option Event → Type 0 = λ v. Sound Γ s (all_controlled Cs) v l.changes (all_controlled l.next) in
    meeting_sound Γ s (controlled C) (all_controlled Cs) e.0 k.changes l.changes (controlled k.next) (all_controlled l.next)
    (subst P e.1 (h k i)) (subst Q e.2 (hs l n)) (both_aside_of Γ s C Cs kept state k l i n a)

mutual
  -- each step of a tree that keeps the rules is sound
  pub step_sound : (Γ : Environment) (s : Values) (C : Control) → Kept Γ C → IsState Γ s → (k : Step Control) → Is k (steps Γ s C)
      → Sound Γ s (controlled C) k.event k.changes (controlled k.next)
  step_sound Γ s done kept state k i = elim i [ ]
  step_sound Γ s (unbegun p) kept state k i = process_sound Γ s p k i
  step_sound Γ s (after C ps) kept state k i =
      let F : Control → Control = λ D. after D ps in
      let m = mapped_is (leaving F) k (steps Γ s C) i in
      let P : Step Control → Type 0 = λ j. Sound Γ s (controlled (after C ps)) j.event j.changes (controlled j.next) in
      let t = and_parts (types_held C Γ) (all_types_kept ps Γ) kept.types in
      subst P (sym m.2) (ahead_sound Γ s (controlled C) (in_turn ps) m.0.event m.0.changes (controlled m.0.next)
      (step_sound Γ s C (record { types = t.0; usage = kept.usage.0 }) state m.0 m.1))
  step_sound Γ s (both Cs) kept state k i =
      let m = mapped_is (leaving both) k (alone_steps Γ s Cs ++ pair_steps Γ s Cs) i in
      let P : Step Control → Type 0 = λ j. Sound Γ s (controlled (both Cs)) j.event j.changes (controlled j.next) in
      subst P (sym m.2) (all_sound Γ s Cs kept state m.0 m.1)
  step_sound Γ s (local x w v C) kept state k i =
      let Δ : Environment = with_name Γ x (Var w) in
      let r : Values = with_value s x v in
      let m = mapped_is (within x w r) k (steps Δ r C) i in
      let P : Step Control → Type 0 = λ j. Sound Γ s (controlled (local x w v C)) j.event j.changes (controlled j.next) in
      let t = and_parts (can_declare Γ x w && nat_lt v (2 ^ bits_of w)) (types_held C Δ) kept.types in
      let lt : v < 2 ^ bits_of w = ltb-true v (2 ^ bits_of w) (and_parts (can_declare Γ x w) (nat_lt v (2 ^ bits_of w)) t.0).1 in
      subst P (sym m.2) (held_sound Γ s x w v (controlled C) m.0.event m.0.changes (controlled m.0.next)
      (step_sound Δ r C (record { types = t.1; usage = kept.usage }) (declared_state Γ s x w v lt state) m.0 m.1))
  step_sound Γ s (channel c w C) kept state k i =
      let Δ : Environment = with_name Γ c (Chan w None) in
      let F : Control → Control = channel c w in
      let m = mapped_is (leaving F) k (filter (is_off c) (steps Δ s C)) i in
      let f = filtered_is (is_off c) m.0 (steps Δ s C) m.1 in
      let P : Step Control → Type 0 = λ j. Sound Γ s (controlled (channel c w C)) j.event j.changes (controlled j.next) in
      let t = and_parts (can_declare Γ c w) (types_held C Δ) kept.types in
      subst P (sym m.2) (hidden_sound Γ s c w (controlled C) m.0.event m.0.changes (controlled m.0.next)
      (step_sound Δ s C (record { types = t.1; usage = kept.usage }) (connected_state Γ s c w state) m.0 f.0) f.1)

  -- and so is each step of trees at once
  pub all_sound : (Γ : Environment) (s : Values) (Cs : Controls) → Kept Γ (both Cs) → IsState Γ s → (k : Step Controls) → AllIs Γ s Cs k
      → Sound Γ s (all_controlled Cs) k.event k.changes (all_controlled k.next)
  all_sound Γ s no_control kept state k i = elim i [ ]
  all_sound Γ s (and_control C Cs) kept state k i =
      two_sound Γ s C Cs kept state (step_sound Γ s C (first_kept Γ C Cs kept) state) (all_sound Γ s Cs (rest_kept Γ C Cs kept) state) k (which Γ s C Cs k i)

-- ---- the steps are all

-- the steps of trees at once are all that they can do, and without steps they rest
pub record AllStepping (Γ : Environment) (s : Values) (Cs : Controls) : Type 0 where
  pub unfolds : Unfolds Controls all_controlled (AllIs Γ s Cs) (all_done Cs) Γ s (all_controlled Cs)
  pub rests : AtRest Controls (AllIs Γ s Cs) (all_done Cs) Γ s (all_controlled Cs)

after_stepping : (Γ : Environment) (s : Values) (C : Control) (ps : Trees) → Stepping (steps Γ s C) false Γ s (controlled C)
    → Stepping (steps Γ s (after C ps)) false Γ s (controlled (after C ps))
after_stepping Γ s C ps h =
    let F : Control → Control = λ D. after D ps in
    let M : Step Control → Type 0 = λ k. Is k (steps Γ s C) in
    let N : Step Control → Type 0 = λ k. Is k (map (leaving F) (steps Γ s C)) in
    let into : (k : Step Control) → M k → N (leaving F k) = λ k i. is_mapped (leaving F) k (steps Γ s C) i in
    let from : (j : Step Control) → N j → (k : Step Control) × M k × (j.event ≡ k.event) = λ j n. let m = mapped_is (leaving F) j (steps Γ s C) n in (m.0, m.1, ap (λ z. z.event) m.2) in
    record {
      unfolds = leaving_unfolds Control Control F controlled M N false Γ s into from (followed (controlled C) (in_turn ps)) (ahead_unfolds Control controlled M Γ s (controlled C) (in_turn ps) h.unfolds);
      rests = leaving_rests Control Control F controlled M N false Γ s into from (followed (controlled C) (in_turn ps)) (ahead_at_rest Control controlled M Γ s (controlled C) (in_turn ps) h.rests);
    }

both_stepping : (Γ : Environment) (s : Values) (Cs : Controls) → all_done Cs ≡ false → AllStepping Γ s Cs → Stepping (steps Γ s (both Cs)) false Γ s (controlled (both Cs))
both_stepping Γ s Cs e h =
    let ks : List (Step Controls) = alone_steps Γ s Cs ++ pair_steps Γ s Cs in
    let M : Step Controls → Type 0 = λ k. Is k ks in
    let N : Step Control → Type 0 = λ k. Is k (map (leaving both) ks) in
    let into : (k : Step Controls) → M k → N (leaving both k) = λ k i. is_mapped (leaving both) k ks i in
    let from : (j : Step Control) → N j → (k : Step Controls) × M k × (j.event ≡ k.event) = λ j n. let m = mapped_is (leaving both) j ks n in (m.0, m.1, ap (λ z. z.event) m.2) in
    let P : Bool → Type 0 = λ d. Unfolds Controls all_controlled M d Γ s (all_controlled Cs) in
    let Q : Bool → Type 0 = λ d. AtRest Controls M d Γ s (all_controlled Cs) in
    record {
      unfolds = leaving_unfolds Controls Control both controlled M N false Γ s into from (all_controlled Cs) (subst P e h.unfolds);
      rests = leaving_rests Controls Control both controlled M N false Γ s into from (all_controlled Cs) (subst Q e h.rests);
    }

local_stepping : (Γ : Environment) (s : Values) (x : ℕ) (w : Width) (v : ℕ) (C : Control)
    → Stepping (steps (with_name Γ x (Var w)) (with_value s x v) C) false (with_name Γ x (Var w)) (with_value s x v) (controlled C)
    → Stepping (steps Γ s (local x w v C)) false Γ s (controlled (local x w v C))
local_stepping Γ s x w v C h =
    let r : Values = with_value s x v in
    let ks : List (Step Control) = steps (with_name Γ x (Var w)) r C in
    let F : ℕ × Control → Control = λ b. local x w b.0 b.1 in
    let L : Step Control → Type 0 = λ k. Is k ks in
    let M : Step (ℕ × Control) → Type 0 = λ k. Is (leaving F k) (map (within x w r) ks) in
    let N : Step Control → Type 0 = λ k. Is k (map (within x w r) ks) in
    let in_held : (k : Step Control) → L k → M (inside x r k) = λ k i. is_mapped (within x w r) k ks i in
    let of_held : (j : Step (ℕ × Control)) → M j → (k : Step Control) × L k × (j.event ≡ k.event) = λ j n. let m = mapped_is (within x w r) (leaving F j) ks n in (m.0, m.1, ap (λ z. z.event) m.2) in
    let into : (k : Step (ℕ × Control)) → M k → N (leaving F k) = λ k i. i in
    let from : (j : Step Control) → N j → (k : Step (ℕ × Control)) × M k × (j.event ≡ k.event) = λ j n. let m = mapped_is (within x w r) j ks n in (inside x r m.0, in_held m.0 m.1, ap (λ z. z.event) m.2) in
    record {
      unfolds = leaving_unfolds (ℕ × Control) Control F controlled M N false Γ s into from (holding x w v (controlled C)) (held_unfolds Control controlled L M false x w v Γ s (controlled C) in_held of_held h.unfolds);
      rests = leaving_rests (ℕ × Control) Control F controlled M N false Γ s into from (holding x w v (controlled C)) (held_at_rest Control controlled L M false x w v Γ s (controlled C) in_held of_held h.rests);
    }

channel_stepping : (Γ : Environment) (s : Values) (c : ℕ) (w : Width) (C : Control)
    → Stepping (steps (with_name Γ c (Chan w None)) s C) false (with_name Γ c (Chan w None)) s (controlled C)
    → Stepping (steps Γ s (channel c w C)) false Γ s (controlled (channel c w C))
channel_stepping Γ s c w C h =
    let ks : List (Step Control) = steps (with_name Γ c (Chan w None)) s C in
    let F : Control → Control = channel c w in
    let L : Step Control → Type 0 = λ k. Is k ks in
    let M : Step Control → Type 0 = λ k. L k × (off c k.event ≡ true) in
    let N : Step Control → Type 0 = λ k. Is k (map (leaving F) (filter (is_off c) ks)) in
    let into : (k : Step Control) → M k → N (leaving F k) = λ k i. is_mapped (leaving F) k (filter (is_off c) ks) (is_filtered (is_off c) k ks i.0 i.1) in
    let from : (j : Step Control) → N j → (k : Step Control) × M k × (j.event ≡ k.event) = λ j n. let m = mapped_is (leaving F) j (filter (is_off c) ks) n in (m.0, filtered_is (is_off c) m.0 ks m.1, ap (λ z. z.event) m.2) in
    record {
      unfolds = leaving_unfolds Control Control F controlled M N false Γ s into from (over_channel c w (controlled C)) (hidden_unfolds Control controlled L false c w Γ s (controlled C) h.unfolds);
      rests = leaving_rests Control Control F controlled M N false Γ s into from (over_channel c w (controlled C)) (hidden_at_rest Control controlled L false c w Γ s (controlled C) h.rests);
    }

none_at : (Γ : Environment) (s : Values) (t : Trace) (o : Outcome) → (t ≡ []) × (o ≡ ended s) → Unfolded Controls all_controlled (AllIs Γ s no_control) true Γ s t o
none_at Γ s t o d =
    let P : Trace → Type 0 = λ r. Unfolded Controls all_controlled (AllIs Γ s no_control) true Γ s r o in
    let Q : Outcome → Type 0 = λ r. Unfolded Controls all_controlled (AllIs Γ s no_control) true Γ s [] r in
    subst P (sym d.0) (subst Q (sym d.1) (ends refl (λ k i. elim i [ ])))

none_stepping : (Γ : Environment) (s : Values) → AllStepping Γ s no_control
none_stepping Γ s = record { unfolds = record { comes = none_at Γ s }; rests = record { over = λ i. (refl, refl); refused = λ i X out. false_not_true (sym i) } }

module _ (Γ : Environment) (s : Values) (C : Control) (Cs : Controls) where
  which_idle : ((k : Step Control) → Is k (steps Γ s C) → ⊥) → ((l : Step Controls) → AllIs Γ s Cs l → ⊥) → (j : Step Controls) → Which Γ s C Cs j → ⊥
  which_idle h1 h2 j (of_one k i) = h1 k i
  which_idle h1 h2 j (of_rest l i) = h2 l i
  which_idle h1 h2 j (of_two k l i n a) = h1 k i

  which_outside : (X : EventSet) → ((k : Step Control) → Is k (steps Γ s C) → outside X k.event ≡ true) → ((l : Step Controls) → AllIs Γ s Cs l → outside X l.event ≡ true)
      → ((k : Step Control) (l : Step Controls) → Is k (steps Γ s C) → AllIs Γ s Cs l → answers k.event l.event ≡ true → ⊥)
      → (j : Step Controls) → Which Γ s C Cs j → outside X j.event ≡ true
  which_outside X h1 h2 h3 j (of_one k i) = h1 k i
  which_outside X h1 h2 h3 j (of_rest l i) = h2 l i
  which_outside X h1 h2 h3 j (of_two k l i n a) = absurd (h3 k l i n a)

  two_comes : (t : Trace) (o : Outcome)
      → TwoUnfolded Control Controls controlled all_controlled (λ k. Is k (steps Γ s C)) (AllIs Γ s Cs) (controlled C) (all_controlled Cs) (is_done C && all_done Cs) Γ s t o
      → Unfolded Controls all_controlled (AllIs Γ s (and_control C Cs)) (is_done C && all_done Cs) Γ s t o
  two_comes t o (both_end i h1 h2) = ends i (λ j n. which_idle h1 h2 j (which Γ s C Cs j n))
  two_comes t o (both_wait {X = X} i h1 h2 h3) = waits i (λ j n. which_outside X h1 h2 h3 j (which Γ s C Cs j n))
  two_comes t o (first_moves k a i e d) = moves (leaving (λ D. and_control D Cs) k) a (one_member Γ s C Cs k i) e d
  two_comes t o (second_moves l a i e d) = moves (leaving (λ Ds. and_control C Ds) l) a (rest_member Γ s C Cs l i) e d
  two_comes t o (both_move k l i j h d) = moves (leaving (λ m. and_control m.0 m.1) (joint k l)) t (two_member Γ s C Cs k l i j h) refl d

  and_stepping : Kept Γ (both (and_control C Cs)) → IsState Γ s → Stepping (steps Γ s C) (is_done C) Γ s (controlled C) → AllStepping Γ s Cs → AllStepping Γ s (and_control C Cs)
  and_stepping kept state h hs =
      let M : Step Control → Type 0 = λ k. Is k (steps Γ s C) in
      let N : Step Controls → Type 0 = AllIs Γ s Cs in
      let Z : EventSet = λ e. list_any (is_event e) (steps Γ s C) in
      record {
        unfolds = record {
          comes = λ t o d. two_comes t o (two_unfolds Control Controls controlled all_controlled M N (controlled C) (all_controlled Cs) (is_done C) (all_done Cs)
              Γ s (clear_of Γ s C Cs kept state) h.unfolds hs.unfolds t o d);
        };
        rests = record {
          over = λ i. two_over Control Controls M N Z Γ s (controlled C) (all_controlled Cs) (is_done C) (all_done Cs) h.rests hs.rests i;
          refused = λ i X out. two_at_rest Control Controls M N Z Γ s (controlled C) (all_controlled Cs) (is_done C) (all_done Cs) h.rests hs.rests (offers_of (steps Γ s C)) i X
              (λ k j. out (leaving (λ D. and_control D Cs) k) (one_member Γ s C Cs k j)) (λ l j. out (leaving (λ Ds. and_control C Ds) l) (rest_member Γ s C Cs l j))
              (λ k l j n a. false_not_true (out (leaving (λ m. and_control m.0 m.1) (joint k l)) (two_member Γ s C Cs k l j n a)));
        };
      }

not_over : (Γ : Environment) (s : Values) (ks : List (Step Control)) (m : Meaning) (d : Bool) → d ≡ false → Stepping ks d Γ s m → Stepping ks false Γ s m
not_over Γ s ks m d e h = let P : Bool → Type 0 = λ b. Stepping ks b Γ s m in subst P e h

mutual
  -- the steps of a settled tree are all that it can do, and without steps it rests
  pub step_stepping : (Γ : Environment) (s : Values) (C : Control) → Kept Γ C → IsState Γ s → is_settled C ≡ true → Stepping (steps Γ s C) (is_done C) Γ s (controlled C)
  step_stepping Γ s done kept state h = over_stepping Γ s
  step_stepping Γ s (unbegun p) kept state h = process_stepping Γ s p h
  step_stepping Γ s (after C ps) kept state h =
      let t = and_parts (types_held C Γ) (all_types_kept ps Γ) kept.types in
      let j = and_parts (not (is_done C)) (is_settled C) h in
      after_stepping Γ s C ps (not_over Γ s (steps Γ s C) (controlled C) (is_done C) (not-true (is_done C) j.0)
      (step_stepping Γ s C (record { types = t.0; usage = kept.usage.0 }) state j.1))
  step_stepping Γ s (both Cs) kept state h =
      let j = and_parts (not (all_done Cs)) (all_are_settled Cs) h in both_stepping Γ s Cs (not-true (all_done Cs) j.0) (all_stepping Γ s Cs kept state j.1)
  step_stepping Γ s (local x w v C) kept state h =
      let Δ : Environment = with_name Γ x (Var w) in
      let r : Values = with_value s x v in
      let t = and_parts (can_declare Γ x w && nat_lt v (2 ^ bits_of w)) (types_held C Δ) kept.types in
      let lt : v < 2 ^ bits_of w = ltb-true v (2 ^ bits_of w) (and_parts (can_declare Γ x w) (nat_lt v (2 ^ bits_of w)) t.0).1 in
      let j = and_parts (not (is_done C)) (is_settled C) h in
      local_stepping Γ s x w v C (not_over Δ r (steps Δ r C) (controlled C) (is_done C) (not-true (is_done C) j.0)
      (step_stepping Δ r C (record { types = t.1; usage = kept.usage }) (declared_state Γ s x w v lt state) j.1))
  step_stepping Γ s (channel c w C) kept state h =
      let Δ : Environment = with_name Γ c (Chan w None) in
      let t = and_parts (can_declare Γ c w) (types_held C Δ) kept.types in
      let j = and_parts (not (is_done C)) (is_settled C) h in
      channel_stepping Γ s c w C (not_over Δ s (steps Δ s C) (controlled C) (is_done C) (not-true (is_done C) j.0)
      (step_stepping Δ s C (record { types = t.1; usage = kept.usage }) (connected_state Γ s c w state) j.1))

  -- the same of trees at once
  all_stepping : (Γ : Environment) (s : Values) (Cs : Controls) → Kept Γ (both Cs) → IsState Γ s → all_are_settled Cs ≡ true → AllStepping Γ s Cs
  all_stepping Γ s no_control kept state h = none_stepping Γ s
  all_stepping Γ s (and_control C Cs) kept state h =
      let j = and_parts (is_settled C) (all_are_settled Cs) h in
      and_stepping Γ s C Cs kept state (step_stepping Γ s C (first_kept Γ C Cs kept) state j.0) (all_stepping Γ s Cs (rest_kept Γ C Cs kept) state j.1)
