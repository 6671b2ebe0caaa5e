-- The steps of a control tree that keeps the rules: each is sound, and of a settled tree they are all that it can do.
use Rattle.occ_meaning.specs.occ_base.declared.event.Event.{Event}
use Rattle.occ_meaning.proofs.Facts.{clash, event_itself, false_not_true, same_events}
use Rattle.occ_meaning.proofs.Frame.{KeepsValue}
use Rattle.occ_meaning.proofs.OffValues.{Ignores}
use Rattle.occ_run_steps.proofs.Changes.{IgnoresChanges}
use Rattle.occ_run_steps.proofs.Ignoring.{all_ignore, control_ignores}
use Rattle.occ_run_steps.proofs.KeptSettled.{first_kept, rest_kept}
use Rattle.occ_run_steps.proofs.Lists.{Is, first, is_either, is_left, is_mapped, is_meeting, is_right, later, mapped_is}
use Rattle.occ_run_steps.proofs.Moves.{AtRest, Offers, Unfolded, Unfolds, ends, moves, waits}
use Rattle.occ_run_steps.proofs.StepKeeps.{ChangesOnly, StepKeeps, alone_keeps, one_unchanged, pairs_keep, step_keeps, with_is}
use Rattle.occ_run_steps.proofs.Two.{Clear, OneChanges, first_changes, second_changes}
use Rattle.occ_run_steps.specs.Controlled.{all_controlled, controlled}
use Rattle.occ_run_steps.specs.Control.{Control, Controls, and_control, both, no_control}
use Rattle.occ_run_steps.specs.Kept.{Kept, all_types_held, names_free, some_name_free, some_write, types_held, writes}
use Rattle.occ_run_steps.specs.Step.{Step, answers, is_event, joint, leaving, meetings, outside, same}
use Rattle.occ_run_steps.specs.Steps.{alone_steps, pair_steps, steps, steps_with}
use Rattle.occ_meaning.specs.occ_syntax.Meaning.{Meaning, Outcome}
use Rattle.occ_meaning.specs.occ_syntax.Scopes.{Environment, IsState, Trace, Values}
use Rattle.std.proofs.Common.{Bool, List, None, Option, Some, [], ap, false, inl, inr, map, refl, subst, sym, true, ℕ, ◌++◌, ◌∙◌, ◌∷◌, ◌≡◌}
use Rattle.std.proofs.lemmas.Bool.{and_parts, false_from_ne_true, or_cases, or_left, or_right}
use Rattle.std.specs.List.{list_any}

-- ---- a set of steps under a map of what is left

module _ (A B : Type 0) (F : A → B) (g : B → Meaning) (M : Step A → Type 0) (N : Step B → Type 0) (d : Bool) (Γ : Environment) (s : Values)
    (into : (k : Step A) → M k → N (leaving F k)) (from : (j : Step B) → N j → (k : Step A) × M k × (j.event ≡ k.event)) where
  leaving_at : (t : Trace) (o : Outcome) → Unfolded A (λ a. g (F a)) M d Γ s t o → Unfolded B g N d Γ s t o
  leaving_at t o (ends i idle) = ends i (λ j n. idle (from j n).0 (from j n).1)
  leaving_at t o (waits {X = X} i out) = waits i (λ j n. let P : Option Event → Type 0 = λ u. outside X u ≡ true in subst P (sym (from j n).2) (out (from j n).0 (from j n).1))
  leaving_at t o (moves k a i e dk) = moves (leaving F k) a (into k i) e dk

  -- all that can be done, in other words for what is left
  pub leaving_unfolds : (m : Meaning) → Unfolds A (λ a. g (F a)) M d Γ s m → Unfolds B g N d Γ s m
  leaving_unfolds m h = record { comes = λ t o e. leaving_at t o (h.comes t o e) }

  -- at rest, in other words for what is left
  pub leaving_rests : (m : Meaning) → AtRest A M d Γ s m → AtRest B N d Γ s m
  leaving_rests m h = record { over = h.over; refused = λ i X out. h.refused i X (λ k j. out (leaving F k) (into k j)) }

-- the events of a list of steps
pub offers_of : {A : Type 0} (ks : List (Step A)) → Offers A (λ k. Is k ks) (λ e. list_any (is_event e) ks)
offers_of ks = record { offered = λ k e i j. event_in e k ks i j; by_step = λ e h. event_by e ks h }
  where
    event_here : {A : Type 0} (e : Event) (k : Step A) → k.event ≡ Some e → is_event e k ≡ true
    event_here e k j = let P : Option Event → Type 0 = λ v. same e v ≡ true in subst P (sym j) (event_itself e)

    event_is : (e : Event) (v : Option Event) → same e v ≡ true → v ≡ Some e
    event_is e None h = false_not_true h
    event_is e (Some f) h = ap Some (sym (same_events e f h))

    event_in : {A : Type 0} (e : Event) (k : Step A) (ks : List (Step A)) → Is k ks → k.event ≡ Some e → list_any (is_event e) ks ≡ true
    event_in e k (j ∷ ks) first i = or_left (is_event e k) (list_any (is_event e) ks) (event_here e k i)
    event_in e k (j ∷ ks) (later h) i = or_right (is_event e j) (list_any (is_event e) ks) (event_in e k ks h i)
    event_in e k [] h i = elim h [ ]

    event_by : {A : Type 0} (e : Event) (ks : List (Step A)) → list_any (is_event e) ks ≡ true → (k : Step A) × Is k ks × (k.event ≡ Some e)
    event_by e [] h = false_not_true h
    event_by e (k ∷ ks) h = elim (or_cases (is_event e k) (list_any (is_event e) ks) h) [
      | inl i ↦ (k, first, event_is e k.event i)
      | inr i ↦ (let m = event_by e ks i in (m.0, later m.1, m.2))
    ]

-- ---- the steps of trees at once

-- a step of trees at once
abbrev pub AllIs : Environment → Values → Controls → Step Controls → Type 0
AllIs Γ s Cs k = Is k (alone_steps Γ s Cs ++ pair_steps Γ s Cs)

-- a step of trees at once is one of the first, one of the others, or two that meet
pub data Which (Γ : Environment) (s : Values) (C : Control) (Cs : Controls) : Step Controls → Type 0 where
  of_one : (k : Step Control) → Is k (steps Γ s C) → Which Γ s C Cs (leaving (λ D. and_control D Cs) k)
  of_rest : (l : Step Controls) → AllIs Γ s Cs l → Which Γ s C Cs (leaving (λ Ds. and_control C Ds) l)
  of_two : (k : Step Control) (l : Step Controls) → Is k (steps Γ s C) → AllIs Γ s Cs l → answers k.event l.event ≡ true
      → Which Γ s C Cs (leaving (λ m. and_control m.0 m.1) (joint k l))

-- each step is of one of these kinds
pub which : (Γ : Environment) (s : Values) (C : Control) (Cs : Controls) (j : Step Controls) → AllIs Γ s (and_control C Cs) j → Which Γ s C Cs j
which Γ s C Cs j i =
    let F : Control → Controls = λ D. and_control D Cs in
    let G : Controls → Controls = λ Ds. and_control C Ds in
    let H : Control × Controls → Controls = λ m. and_control m.0 m.1 in
    let P : Step Controls → Type 0 = λ k. Which Γ s C Cs k in
    elim (is_either j (alone_steps Γ s (and_control C Cs)) (pair_steps Γ s (and_control C Cs)) i) [
      | inl h ↦ elim (is_either j (map (leaving F) (steps Γ s C)) (map (leaving G) (alone_steps Γ s Cs)) h) [
        | inl n ↦ (let m = mapped_is (leaving F) j (steps Γ s C) n in subst P (sym m.2) (of_one m.0 m.1))
        | inr n ↦ (let m = mapped_is (leaving G) j (alone_steps Γ s Cs) n in subst P (sym m.2) (of_rest m.0 (is_left m.0 (alone_steps Γ s Cs) (pair_steps Γ s Cs) m.1)))
      ]
      | inr h ↦ elim (is_either j (map (leaving H) (steps_with Γ s (steps Γ s C) Cs)) (map (leaving G) (pair_steps Γ s Cs)) h) [
        | inl n ↦ (let m = mapped_is (leaving H) j (steps_with Γ s (steps Γ s C) Cs) n in
            let q = with_is Γ s (steps Γ s C) Cs m.0 m.1 in
            subst P (sym (m.2 ∙ ap (leaving H) q.both)) (of_two q.one q.other q.of_one (is_left q.other (alone_steps Γ s Cs) (pair_steps Γ s Cs) q.of_other) q.meets))
        | inr n ↦ (let m = mapped_is (leaving G) j (pair_steps Γ s Cs) n in subst P (sym m.2) (of_rest m.0 (is_right m.0 (alone_steps Γ s Cs) (pair_steps Γ s Cs) m.1)))
      ]
    ]

-- each step of the first is one of all
pub one_member : (Γ : Environment) (s : Values) (C : Control) (Cs : Controls) (k : Step Control) → Is k (steps Γ s C)
    → AllIs Γ s (and_control C Cs) (leaving (λ D. and_control D Cs) k)
one_member Γ s C Cs k i =
    let F : Control → Controls = λ D. and_control D Cs in
    let G : Controls → Controls = λ Ds. and_control C Ds in
    is_left (leaving F k) (alone_steps Γ s (and_control C Cs)) (pair_steps Γ s (and_control C Cs))
    (is_left (leaving F k) (map (leaving F) (steps Γ s C)) (map (leaving G) (alone_steps Γ s Cs)) (is_mapped (leaving F) k (steps Γ s C) i))

-- each step of the others is one of all
pub rest_member : (Γ : Environment) (s : Values) (C : Control) (Cs : Controls) (l : Step Controls) → AllIs Γ s Cs l
    → AllIs Γ s (and_control C Cs) (leaving (λ Ds. and_control C Ds) l)
rest_member Γ s C Cs l i =
    let F : Control → Controls = λ D. and_control D Cs in
    let G : Controls → Controls = λ Ds. and_control C Ds in
    let H : Control × Controls → Controls = λ m. and_control m.0 m.1 in
    elim (is_either l (alone_steps Γ s Cs) (pair_steps Γ s Cs) i) [
      | inl h ↦ is_left (leaving G l) (alone_steps Γ s (and_control C Cs)) (pair_steps Γ s (and_control C Cs))
          (is_right (leaving G l) (map (leaving F) (steps Γ s C)) (map (leaving G) (alone_steps Γ s Cs)) (is_mapped (leaving G) l (alone_steps Γ s Cs) h))
      | inr h ↦ is_right (leaving G l) (alone_steps Γ s (and_control C Cs)) (pair_steps Γ s (and_control C Cs))
          (is_right (leaving G l) (map (leaving H) (steps_with Γ s (steps Γ s C) Cs)) (map (leaving G) (pair_steps Γ s Cs)) (is_mapped (leaving G) l (pair_steps Γ s Cs) h))
    ]

-- a step of the first that meets one of the later ones alone
in_with : (Γ : Environment) (s : Values) (ks : List (Step Control)) (Cs : Controls) (k : Step Control) (l : Step Controls) → Is k ks
    → Is l (alone_steps Γ s Cs) → answers k.event l.event ≡ true → Is (joint k l) (steps_with Γ s ks Cs)
in_with Γ s ks no_control k l i j h = elim j [ ]
in_with Γ s ks (and_control D Ds) k l i j h =
    let F : Control × Control → Control × Controls = λ m. (m.0, and_control m.1 Ds) in
    let G : Control × Controls → Control × Controls = λ m. (m.0, and_control D m.1) in
    let H : Control → Controls = λ E. and_control E Ds in
    let L : Controls → Controls = λ Es. and_control D Es in
    let P : Step Controls → Type 0 = λ z. Is (joint k z) (steps_with Γ s ks (and_control D Ds)) in
    let Q : Step Controls → Type 0 = λ z. answers k.event z.event ≡ true in
    let first_part : List (Step (Control × Controls)) = map (leaving F) (meetings ks (steps Γ s D)) in
    let second_part : List (Step (Control × Controls)) = map (leaving G) (steps_with Γ s ks Ds) in
    elim (is_either l (map (leaving H) (steps Γ s D)) (map (leaving L) (alone_steps Γ s Ds)) j) [
      | inl n ↦ (let m = mapped_is (leaving H) l (steps Γ s D) n in
          subst P (sym m.2) (is_left (joint k (leaving H m.0)) first_part second_part
          (is_mapped (leaving F) (joint k m.0) (meetings ks (steps Γ s D)) (is_meeting k m.0 ks (steps Γ s D) i m.1 (subst Q m.2 h)))))
      | inr n ↦ (let m = mapped_is (leaving L) l (alone_steps Γ s Ds) n in
          subst P (sym m.2) (is_right (joint k (leaving L m.0)) first_part second_part
          (is_mapped (leaving G) (joint k m.0) (steps_with Γ s ks Ds) (in_with Γ s ks Ds k m.0 i m.1 (subst Q m.2 h)))))
    ]

-- a pair of events that meet isn't seen
pub pair_unseen : (Γ : Environment) (s : Values) (Cs : Controls) (l : Step Controls) → Is l (pair_steps Γ s Cs) → l.event ≡ None
pair_unseen Γ s no_control l i = elim i [ ]
pair_unseen Γ s (and_control C Cs) l i =
    let G : Controls → Controls = λ Ds. and_control C Ds in
    let H : Control × Controls → Controls = λ m. and_control m.0 m.1 in
    let P : Step Controls → Type 0 = λ k. k.event ≡ None in
    elim (is_either l (map (leaving H) (steps_with Γ s (steps Γ s C) Cs)) (map (leaving G) (pair_steps Γ s Cs)) i) [
      | inl n ↦ (let m = mapped_is (leaving H) l (steps_with Γ s (steps Γ s C) Cs) n in
          let q = with_is Γ s (steps Γ s C) Cs m.0 m.1 in subst P (sym (m.2 ∙ ap (leaving H) q.both)) refl)
      | inr n ↦ (let m = mapped_is (leaving G) l (pair_steps Γ s Cs) n in subst P (sym m.2) (pair_unseen Γ s Cs m.0 m.1))
    ]

none_answers : (u : Option Event) → answers u None ≡ true → ⊥
none_answers None h = false_not_true h
none_answers (Some e) h = false_not_true h

-- each two that meet are one of all
pub two_member : (Γ : Environment) (s : Values) (C : Control) (Cs : Controls) (k : Step Control) (l : Step Controls) → Is k (steps Γ s C) → AllIs Γ s Cs l
    → answers k.event l.event ≡ true → AllIs Γ s (and_control C Cs) (leaving (λ m. and_control m.0 m.1) (joint k l))
two_member Γ s C Cs k l i j h =
    let G : Controls → Controls = λ Ds. and_control C Ds in
    let H : Control × Controls → Controls = λ m. and_control m.0 m.1 in
    elim (is_either l (alone_steps Γ s Cs) (pair_steps Γ s Cs) j) [
      | inl n ↦ is_right (leaving H (joint k l)) (alone_steps Γ s (and_control C Cs)) (pair_steps Γ s (and_control C Cs))
          (is_left (leaving H (joint k l)) (map (leaving H) (steps_with Γ s (steps Γ s C) Cs)) (map (leaving G) (pair_steps Γ s Cs))
          (is_mapped (leaving H) (joint k l) (steps_with Γ s (steps Γ s C) Cs) (in_with Γ s (steps Γ s C) Cs k l i n h)))
      | inr n ↦ absurd (let P : Option Event → Type 0 = λ v. answers k.event v ≡ true in none_answers k.event (subst P (pair_unseen Γ s Cs l n) h))
    ]

-- ---- what the steps of the one ignore of the other's

-- what a step of the others keeps
rests_keep : (Γ : Environment) (s : Values) (Cs : Controls) → Kept Γ (both Cs) → IsState Γ s → (l : Step Controls) → AllIs Γ s Cs l
    → StepKeeps Γ s (both Cs) l.event l.changes (both l.next)
rests_keep Γ s Cs kept state l i = elim (is_either l (alone_steps Γ s Cs) (pair_steps Γ s Cs) i) [
  | inl h ↦ alone_keeps Γ s Cs kept state l h
  | inr h ↦ pairs_keep Γ s Cs kept state l h
]

only_ignored : (n : Meaning) (P : ℕ → Bool) (cs : List (ℕ × ℕ)) → ((x : ℕ) → P x ≡ true → Ignores x n × KeepsValue x n) → ChangesOnly P cs → IgnoresChanges n cs
only_ignored n P [] h k = tt
only_ignored n P (c ∷ cs) h k = (h c.0 k.0, only_ignored n P cs h k.1)

module _ (Γ : Environment) (s : Values) (C : Control) (Cs : Controls) (kept : Kept Γ (both (and_control C Cs))) (state : IsState Γ s) where
  first_types : types_held C Γ ≡ true
  first_types = (and_parts (types_held C Γ) (all_types_held Cs Γ) kept.types).0

  rest_types : all_types_held Cs Γ ≡ true
  rest_types = (and_parts (types_held C Γ) (all_types_held Cs Γ) kept.types).1

  -- the others ignore what a step of the first changes
  pub first_aside_of : (k : Step Control) → Is k (steps Γ s C) → IgnoresChanges (all_controlled Cs) k.changes
  first_aside_of k i = only_ignored (all_controlled Cs) (writes C) k.changes
      (λ x h. all_ignore Cs Γ rest_types x (inl (kept.usage.1.0.first_writes x h))) (step_keeps Γ s C (first_kept Γ C Cs kept) state k i).only

  -- the first ignores what a step of the others changes
  pub second_aside_of : (l : Step Controls) → AllIs Γ s Cs l → IgnoresChanges (controlled C) l.changes
  second_aside_of l i = only_ignored (controlled C) (some_write Cs) l.changes
      (λ x h. control_ignores C Γ first_types x (inl (kept.usage.1.0.second_writes x h))) (rests_keep Γ s Cs (rest_kept Γ C Cs kept) state l i).only

  still_free : (D : Control) (x : ℕ) → ((y : ℕ) → names_free D y ≡ true → names_free C y ≡ true) → names_free C x ≡ false → names_free D x ≡ false
  still_free D x imp h = false_from_ne_true (names_free D x) (λ i. clash (names_free C x) (imp x i) h)

  rest_free : (Ds : Controls) (x : ℕ) → ((y : ℕ) → some_name_free Ds y ≡ true → some_name_free Cs y ≡ true) → some_name_free Cs x ≡ false → some_name_free Ds x ≡ false
  rest_free Ds x imp h = false_from_ne_true (some_name_free Ds x) (λ i. clash (some_name_free Cs x) (imp x i) h)

  -- of two steps that meet one changes nothing that matters to the other
  pub both_aside_of : (k : Step Control) (l : Step Controls) → Is k (steps Γ s C) → AllIs Γ s Cs l → answers k.event l.event ≡ true
      → OneChanges (controlled k.next) (all_controlled l.next) k.changes l.changes
  both_aside_of k l i j h =
      let a = step_keeps Γ s C (first_kept Γ C Cs kept) state k i in
      let b = rests_keep Γ s Cs (rest_kept Γ C Cs kept) state l j in
      let P : List (ℕ × ℕ) → Type 0 = λ cs. OneChanges (controlled k.next) (all_controlled l.next) cs l.changes in
      let Q : List (ℕ × ℕ) → Type 0 = λ cs. OneChanges (controlled k.next) (all_controlled l.next) k.changes cs in
      elim (one_unchanged Γ s C (both Cs) k.event l.event k.changes l.changes k.next (both l.next) a b h) [
        | inl e ↦ subst P (sym e) (second_changes (only_ignored (controlled k.next) (some_write Cs) l.changes
            (λ x w. control_ignores k.next Γ a.kept.types x (inl (still_free k.next x a.less.names (kept.usage.1.0.second_writes x w)))) b.only))
        | inr e ↦ subst Q (sym e) (first_changes (only_ignored (all_controlled l.next) (writes C) k.changes
            (λ x w. all_ignore l.next Γ b.kept.types x (inl (rest_free l.next x b.less.names (kept.usage.1.0.first_writes x w)))) a.only))
      ]

  -- the steps of trees that keep the rules are clear of one another
  pub clear_of : Clear Control Controls controlled all_controlled (λ k. Is k (steps Γ s C)) (AllIs Γ s Cs) Γ (controlled C) (all_controlled Cs)
  clear_of = record {
    first_aside = first_aside_of;
    second_aside = second_aside_of;
    both_aside = both_aside_of;
    scope = λ k e i j. (step_keeps Γ s C (first_kept Γ C Cs kept) state k i).scope e j;
  }
