-- Nodes that wait for events: how they are made.
use Rattle.std.proofs.Common.{◌≡◌, ◌<◌, ◌^◌, ℕ, Bool, true, false, not, ◌||◌, ◌&&◌, List, [], ◌∷◌, Some, None, is_some, cond, refl, sym, ap, ◌∙◌, inl, inr, ⊎_elim}
use Rattle.std.specs.Prelude.{◌↔◌, ◌⊎◌}
use Rattle.std.specs.List.{list_all, list_any}
use Rattle.std.specs.Ordering.{eq_by_cmp}
use Rattle.std.proofs.lemmas.Bool.{and_from, and_parts, cases_Bool, both_ways, false≢true, or_cases, or_left, or_right}
use Rattle.occ_syntax.specs.occ_base.declared.event.Event.{Event}
use Rattle.occ_norm_frame.specs.occ_accept.Accept.{misses, refuses}
use Rattle.occ_norm_frame.specs.occ_accept.Order.{event_cmp, strict}
use Rattle.occ_norm_frame.proofs.from_accept.Events.{cmp_total, event_exact}
use Rattle.occ_norm_frame.proofs.from_accept.Strict.{tied, tied_same}
use Rattle.occ_norm_frame.specs.occ_node.Offers.{offer_cmp, next_in, is_offered}
use Rattle.occ_norm_frame.specs.occ_node.Rows.{goes_on}
use Rattle.occ_norm_frame.specs.occ_node.World.{IsNode, row_of, fails, ends}
use Rattle.occ_norm_frame.specs.occ_node.Canonical.{HasTrace}
use Rattle.occ_norm_frame.specs.occ_node.declared.node.NodeId.{NodeId}
use Rattle.occ_norm_frame.specs.occ_node.declared.world.World.{World}
use Rattle.occ_norm_frame.proofs.from_node.Table.{none_above}
use Rattle.occ_norm_frame.proofs.from_node.Recovery.{recovered}
use Rattle.occ_norm_frame.proofs.from_node.Behaviours.{is_row, fails_nil, ends_nil}
use Rattle.occ_norm_frame.specs.occ_choice.Branches.{branch_fails, branch_ends, is_unready}
use Rattle.occ_norm_frame.specs.Lifted.{branches_of}

-- ---- equivalences
pub sum_iff : {A B C D : Type 0} → A ↔ B → C ↔ D → (A ⊎ C) ↔ (B ⊎ D)
sum_iff f g = (⊎_elim (λ a. inl (f.0 a)) (λ c. inr (g.0 c)), ⊎_elim (λ b. inl (f.1 b)) (λ d. inr (g.1 d)))

pub or_iff : (a b : Bool) → ((a || b) ≡ true) ↔ ((a ≡ true) ⊎ (b ≡ true))
or_iff a b = (or_cases a b, ⊎_elim (λ h. or_left a b h) (λ h. or_right a b h))

-- ---- what a node offers
offered_here : (o : Event × NodeId) (offers : List (Event × NodeId)) (e : Event) → eq_by_cmp event_cmp e o.0 ≡ true → is_offered (o ∷ offers) e ≡ true
offered_here o offers e h = ap (λ c. is_some (cond c (Some o.1) (next_in offers e))) h

offered_later : (o : Event × NodeId) (offers : List (Event × NodeId)) (e : Event) → is_offered offers e ≡ true → is_offered (o ∷ offers) e ≡ true
offered_later o offers e h = ⊎_elim
    (λ (t : eq_by_cmp event_cmp e o.0 ≡ true). offered_here o offers e t)
    (λ (t : eq_by_cmp event_cmp e o.0 ≡ false). ap (λ c. is_some (cond c (Some o.1) (next_in offers e))) t ∙ h)
    (cases_Bool (eq_by_cmp event_cmp e o.0))

offered_cases : (o : Event × NodeId) (offers : List (Event × NodeId)) (e : Event) → is_offered (o ∷ offers) e ≡ true → (e ≡ o.0) ⊎ (is_offered offers e ≡ true)
offered_cases o offers e h = ⊎_elim
    (λ (t : eq_by_cmp event_cmp e o.0 ≡ true). inl (tied_same cmp_total event_exact e o.0 t))
    (λ (t : eq_by_cmp event_cmp e o.0 ≡ false). inr (sym (ap (λ c. is_some (cond c (Some o.1) (next_in offers e))) t) ∙ h))
    (cases_Bool (eq_by_cmp event_cmp e o.0))

pub is_false : (b : Bool) → not b ≡ true → b ≡ false
is_false true h = absurd (false≢true h)
is_false false h = refl

pub is_not : (b : Bool) → b ≡ false → not b ≡ true
is_not b h = ap not h

-- the branches of offers, each with an event of its own, are unready where none of these is in the set
pub branches_wait : (offers : List (Event × NodeId)) (X : Event → Bool) → (list_all (is_unready X) (branches_of offers) ≡ true) ↔ ((e : Event) → is_offered offers e ≡ true → X e ≡ false)
branches_wait [] X = (λ h e k. absurd (false≢true k), λ h. refl)
branches_wait (o ∷ offers) X =
    let rest = branches_wait offers X in (
      λ h e k. let parts = and_parts (not (X o.0)) (list_all (is_unready X) (branches_of offers)) h in
          ⊎_elim (λ (t : e ≡ o.0). ap X t ∙ is_false (X o.0) parts.0) (λ t. rest.0 parts.1 e t) (offered_cases o offers e k),
      λ h. and_from (not (X o.0)) (list_all (is_unready X) (branches_of offers)) (is_not (X o.0) (h o.0 (offered_here o offers o.0 (tied cmp_total o.0))))
          (rest.1 (λ e k. h e (offered_later o offers e k))),
    )

module _ (w : World) where
  pub or_nothing : (a : Bool) → (a || false) ≡ a
  or_nothing true = refl
  or_nothing false = refl

  -- no event stands twice
  first_alone : (o : Event × NodeId) (offers : List (Event × NodeId)) (e : Event) → strict offer_cmp (o ∷ offers) ≡ true → eq_by_cmp event_cmp e o.0 ≡ true → next_in offers e ≡ None
  first_alone o offers e h k = ap (next_in offers) (tied_same cmp_total event_exact e o.0 k) ∙ none_above o.0 offers (and_parts _ _ h).0

  pub branches_fail : (offers : List (Event × NodeId)) → strict offer_cmp offers ≡ true → (e : Event) (t : List Event) (X : Event → Bool) → list_any (branch_fails w (e ∷ t) X) (branches_of offers) ≡ goes_on (next_in offers e) (λ b. fails w b t X)
  branches_fail [] h e t X = refl
  branches_fail (o ∷ offers) h e t X =
      let rest = branches_fail offers (and_parts _ _ h).1 e t X in
      ⊎_elim
      (λ (k : eq_by_cmp event_cmp e o.0 ≡ true). (λ i. (k i && fails w o.1 t X) || rest i) ∙ ap (λ n. fails w o.1 t X || goes_on n (λ b. fails w b t X)) (first_alone o offers e h k) ∙ or_nothing (fails w o.1 t X)
      ∙ sym (ap (λ c. goes_on (cond c (Some o.1) (next_in offers e)) (λ b. fails w b t X)) k))
      (λ (k : eq_by_cmp event_cmp e o.0 ≡ false). (λ i. (k i && fails w o.1 t X) || rest i) ∙ sym (ap (λ c. goes_on (cond c (Some o.1) (next_in offers e)) (λ b. fails w b t X)) k))
      (cases_Bool (eq_by_cmp event_cmp e o.0))

  pub branches_end : (offers : List (Event × NodeId)) → strict offer_cmp offers ≡ true → (e : Event) (t : List Event) (z : ℕ) → list_any (branch_ends w (e ∷ t) z) (branches_of offers) ≡ goes_on (next_in offers e) (λ b. ends w b t z)
  branches_end [] h e t z = refl
  branches_end (o ∷ offers) h e t z =
      let rest = branches_end offers (and_parts _ _ h).1 e t z in
      ⊎_elim
      (λ (k : eq_by_cmp event_cmp e o.0 ≡ true). (λ i. (k i && ends w o.1 t z) || rest i) ∙ ap (λ n. ends w o.1 t z || goes_on n (λ b. ends w b t z)) (first_alone o offers e h k) ∙ or_nothing (ends w o.1 t z)
      ∙ sym (ap (λ c. goes_on (cond c (Some o.1) (next_in offers e)) (λ b. ends w b t z)) k))
      (λ (k : eq_by_cmp event_cmp e o.0 ≡ false). (λ i. (k i && ends w o.1 t z) || rest i) ∙ sym (ap (λ c. goes_on (cond c (Some o.1) (next_in offers e)) (λ b. ends w b t z)) k))
      (cases_Bool (eq_by_cmp event_cmp e o.0))

  pub branches_fail_not : (offers : List (Event × NodeId)) (X : Event → Bool) → list_any (branch_fails w [] X) (branches_of offers) ≡ false
  branches_fail_not [] X = refl
  branches_fail_not (o ∷ offers) X = branches_fail_not offers X

  pub branches_end_not : (offers : List (Event × NodeId)) (z : ℕ) → list_any (branch_ends w [] z) (branches_of offers) ≡ false
  branches_end_not [] z = refl
  branches_end_not (o ∷ offers) z = branches_end_not offers z

  -- ---- nodes have behaviours
  nothing_refused : (sets : List (List Event)) → refuses sets (λ e. false) ≡ false → sets ≡ []
  nothing_refused [] h = refl
  nothing_refused (a ∷ sets) h = absurd (both_ways (refuses (a ∷ sets) (λ e. false)) h (ap (λ b. b || refuses sets (λ e. false)) (all_missed a)))
    where
      all_missed : (a : List Event) → misses (λ e. false) a ≡ true
      all_missed [] = refl
      all_missed (e ∷ a) = all_missed a

  pub no_behaviour : (a : NodeId) → IsNode w a → fails w a [] (λ e. false) ≡ false → ((x : ℕ) → x < 2 ^ 64 → ends w a [] x ≡ false) → ⊥
  no_behaviour a h no_fail no_end = (is_row w a h).alive
      (nothing_refused (row_of w a).accepts (sym (fails_nil w a (λ e. false)) ∙ no_fail))
      (λ x k. sym (ends_nil w a x) ∙ no_end x k)

  -- a node offers what its traces begin with
  pub offered_trace : (a : NodeId) (e : Event) (t : List Event) → IsNode w a → HasTrace w a (e ∷ t) → is_offered (row_of w a).offers e ≡ true
  offered_trace a e t h k = ((recovered w a h).offers e).1 (t, k)

  pub trace_offered : (a : NodeId) (e : Event) → IsNode w a → is_offered (row_of w a).offers e ≡ true → (t : List Event) × HasTrace w a (e ∷ t)
  trace_offered a e h k = ((recovered w a h).offers e).0 k
