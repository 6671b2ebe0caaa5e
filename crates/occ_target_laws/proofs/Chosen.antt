-- The offers of the events of a set: they are in order, and their events are the set.
use Rattle.std.proofs.Common.{◌≡◌, ℕ, ◌+◌, ◌≤◌, ◌==◌, true, false, nat_le, if◌then◌else◌, List, [], ◌∷◌, drop, refl, sym, ap, ◌∙◌, subst, inl, inr, ◌⊎◌, arith}
use Rattle.std.proofs.lemmas.Bool.{and_parts, cases_Bool, eqb-true, leb-true, true≢false}
use Rattle.std.specs.List.{list_any}
use Rattle.occ_target.specs.occ_base.declared.event.Event.{Event}
use Rattle.occ_target.specs.occ_base.declared.names.Name.{Name}
use Rattle.occ_target.specs.occ_syntax.declared.scope.Kind.{Kind}
use Rattle.occ_target.specs.occ_syntax.Scopes.{environment, in_interface, same_event}
use Rattle.occ_target.specs.occ_nform_table.Judging.{is_offered}
use Rattle.occ_target.specs.occ_nform_table.Lines.{is_rising, rank}
use Rattle.occ_target.specs.occ_nform_table.Lists.{In}
use Rattle.occ_target.proofs.from_nform_table.Lists.{any_in, test_in}
use Rattle.occ_target.proofs.from_nform_table.Events.{IsProper, event_itself, same_event_is, same_rank}
use Rattle.occ_target.specs.Rows.{begins_with, chosen}
use Rattle.occ_target_laws.proofs.Lists.{in_map, map_in}
use Rattle.occ_target_laws.specs.Whole.{offered}
use Rattle.occ_target_laws.proofs.Grouping.{Rise, rise_in, rise_lower}

taken_out : (set : List Event) (o : Event × ℕ) (offers : List (Event × ℕ)) → begins_with set o.0 ≡ true → chosen set (o ∷ offers) ≡ o ∷ chosen (drop 1 set) offers
unfolding chosen
taken_out set o offers e = ap (λ b. if b then o ∷ chosen (drop 1 set) offers else chosen set offers) e

left_out : (set : List Event) (o : Event × ℕ) (offers : List (Event × ℕ)) → begins_with set o.0 ≡ false → chosen set (o ∷ offers) ≡ chosen set offers
unfolding chosen
left_out set o offers e = ap (λ b. if b then o ∷ chosen (drop 1 set) offers else chosen set offers) e

none_chosen : (set : List Event) → chosen set [] ≡ []
unfolding chosen
none_chosen set = refl

pub chosen_in : (set : List Event) (offers : List (Event × ℕ)) (o : Event × ℕ) → In o (chosen set offers) → In o offers
chosen_in set [] o i = absurd (subst (In o) (none_chosen set) i)
chosen_in set (x ∷ offers) o i = go (cases_Bool (begins_with set x.0)) (chosen_in (drop 1 set) offers o) (chosen_in set offers o)
  where
    go : (begins_with set x.0 ≡ true) ⊎ (begins_with set x.0 ≡ false) → (In o (chosen (drop 1 set) offers) → In o offers) → (In o (chosen set offers) → In o offers) → In o (x ∷ offers)
    go (inl e) one two = elim (subst (In o) (taken_out set x offers e) i) [ inl j ↦ inl j | inr j ↦ inr (one j) ]
    go (inr e) one two = inr (two (subst (In o) (left_out set x offers e) i))

pub chosen_rise : (params : List (Name × Kind)) (floor : ℕ) (set : List Event) (offers : List (Event × ℕ)) → Rise params floor offers → Rise params floor (chosen set offers)
chosen_rise params floor set [] h = subst (Rise params floor) (sym (none_chosen set)) tt
chosen_rise params floor set (o ∷ offers) h =
    go (cases_Bool (begins_with set o.0)) (chosen_rise params (rank params o.0 + 1) (drop 1 set) offers h.1) (chosen_rise params (rank params o.0 + 1) set offers h.1)
  where
    go : (begins_with set o.0 ≡ true) ⊎ (begins_with set o.0 ≡ false) → Rise params (rank params o.0 + 1) (chosen (drop 1 set) offers) → Rise params (rank params o.0 + 1) (chosen set offers)
        → Rise params floor (chosen set (o ∷ offers))
    go (inl e) one two = subst (Rise params floor) (sym (taken_out set o offers e)) (h.0, one)
    go (inr e) one two = subst (Rise params floor) (sym (left_out set o offers e)) (rise_lower params floor (rank params o.0 + 1) (chosen set offers) (omega (arith, h.0)) two)

-- each event of the set is that of an offer
abbrev pub AreOffered : List Event → List (Event × ℕ) → Type 0
AreOffered set offers = (e : Event) → In e set → In e (offered offers)

pub offered_from : (params : List (Name × Kind)) → IsProper params → (set : List Event) (offers : List (Event × ℕ)) → ((e : Event) → In e set → in_interface (environment params) e ≡ true)
    → ((o : Event × ℕ) → In o offers → in_interface (environment params) o.0 ≡ true) → is_offered params offers set ≡ true → AreOffered set offers
offered_from params proper set offers inner formed h e i =
    let found = any_in (λ (o : Event × ℕ). rank params e == rank params o.0) offers (test_in (λ x. list_any (λ (o : Event × ℕ). rank params x == rank params o.0) offers) set e h i) in
    let same : e ≡ found.0.0 = same_rank params proper e found.0.0 (inner e i) (formed found.0 found.1) (eqb-true (rank params e) (rank params found.0.0) found.2) in
    subst (λ x. In x (offered offers)) (sym same) (in_map (λ (o : Event × ℕ). o.0) offers found.0 found.1)

set_floor : (params : List (Name × Kind)) (floor : ℕ) (set : List Event) → is_rising params floor set ≡ true → (e : Event) → In e set → floor ≤ rank params e
unfolding is_rising
set_floor params floor [] h e i = absurd i
set_floor params floor (x ∷ set) h e (inl same) = subst (λ (y : Event). floor ≤ rank params y) (sym same) (leb-true floor (rank params x) (and_parts (nat_le floor (rank params x)) (is_rising params (rank params x + 1) set) h).0)
set_floor params floor (x ∷ set) h e (inr i) =
    let both = and_parts (nat_le floor (rank params x)) (is_rising params (rank params x + 1) set) h in
    let l = set_floor params (rank params x + 1) set both.1 e i in
    let k = leb-true floor (rank params x) both.0 in
    omega (arith, l, k)

set_behind : (params : List (Name × Kind)) (floor : ℕ) (x : Event) (set : List Event) → is_rising params floor (x ∷ set) ≡ true → is_rising params (rank params x + 1) set ≡ true
unfolding is_rising
set_behind params floor x set h = (and_parts (nat_le floor (rank params x)) (is_rising params (rank params x + 1) set) h).1

offer_floor : (params : List (Name × Kind)) (floor : ℕ) (offers : List (Event × ℕ)) → Rise params floor offers → (e : Event) → In e (offered offers) → floor ≤ rank params e
offer_floor params floor offers h e i =
    let found = map_in (λ (o : Event × ℕ). o.0) offers e i in
    subst (λ (x : Event). floor ≤ rank params x) (sym found.2) (rise_in params floor offers h found.0 found.1)

-- the chosen offers are those of the set
pub chosen_events : (params : List (Name × Kind)) (floor low : ℕ) (set : List Event) (offers : List (Event × ℕ)) → is_rising params floor set ≡ true → Rise params low offers → AreOffered set offers
    → offered (chosen set offers) ≡ set
chosen_events params floor low [] [] r h all = ap offered (none_chosen [])
chosen_events params floor low (e ∷ set) [] r h all = absurd (all e (inl refl))
chosen_events params floor low [] (o ∷ offers) r h all = ap offered (left_out [] o offers refl) ∙ chosen_events params floor (rank params o.0 + 1) [] offers r h.1 (λ e i. absurd i)
chosen_events params floor low (e ∷ set) (o ∷ offers) r h all =
    go (cases_Bool (same_event e o.0)) (chosen_events params (rank params e + 1) (rank params o.0 + 1) set offers (set_behind params floor e set r) h.1)
    (chosen_events params floor (rank params o.0 + 1) (e ∷ set) offers r h.1)
  where
    later : e ≡ o.0 → AreOffered set offers
    later same x i = elim (all x (inr i)) [
      | inl k ↦ absurd (let l = set_floor params (rank params e + 1) set (set_behind params floor e set r) x i in omega (arith, l, ap (rank params) (k ∙ sym same)))
      | inr k ↦ k
    ]

    beyond : (same_event e o.0 ≡ false) → In e (offered offers)
    beyond other = elim (all e (inl refl)) [
      | inl k ↦ absurd (true≢false (sym (subst (λ x. same_event e x ≡ true) k (event_itself e)) ∙ other))
      | inr k ↦ k
    ]

    after : (same_event e o.0 ≡ false) → AreOffered (e ∷ set) offers
    after other x (inl k) = subst (λ y. In y (offered offers)) (sym k) (beyond other)
    after other x (inr i) = elim (all x (inr i)) [
      | inl k ↦ absurd (let l = set_floor params (rank params e + 1) set (set_behind params floor e set r) x i in
          let m = offer_floor params (rank params o.0 + 1) offers h.1 e (beyond other) in omega (arith, l, m, ap (rank params) k))
      | inr k ↦ k
    ]

    go : (same_event e o.0 ≡ true) ⊎ (same_event e o.0 ≡ false) → (AreOffered set offers → offered (chosen set offers) ≡ set) → (AreOffered (e ∷ set) offers → offered (chosen (e ∷ set) offers) ≡ e ∷ set)
        → offered (chosen (e ∷ set) (o ∷ offers)) ≡ e ∷ set
    go (inl t) one two =
        let same = same_event_is e o.0 t in
        let rest = one (later same) in
        ap offered (taken_out (e ∷ set) o offers t) ∙ (λ i. sym same i ∷ rest i)
    go (inr t) one two = ap offered (left_out (e ∷ set) o offers t) ∙ two (after t)
