-- What a node can do at once, and which of it is least.
use Rattle.std.proofs.Common.{◌≡◌, ◌<◌, ◌≤◌, ◌+◌, ◌==◌, ◌&&◌, ◌^◌, ℕ, Bool, true, false, cond, List, [], ◌∷◌, Option, Some, None, refl, sym, ap, ◌∙◌, subst, ⊎_elim, arith}
use Rattle.std.proofs.lemmas.Bool.{and_from, and_parts, both_ways, cases_Bool, eq-eqb, eqb-true}
use Rattle.std.specs.Ordering.{is_lt}
use mathlib.Core.Path.{fun_ext}
use Rattle.occ_syntax.specs.Counts.{bits_of_scope}
use Rattle.occ_syntax.specs.Scopes.{EventSet, among}
use Rattle.occ_syntax.specs.Types.{scope_kept}
use Rattle.occ_syntax.specs.occ_base.declared.event.Event.{Event}
use Rattle.occ_syntax.specs.occ_base.declared.names.Name.{Name}
use Rattle.occ_syntax.specs.declared.scope.Kind.{Kind}
use Rattle.occ_refine.specs.occ_accept.Accept.{in_set}
use Rattle.occ_refine.specs.occ_behaviour.States.{state_less}
use Rattle.occ_refine.specs.occ_compare.Orders.{print_cmp}
use Rattle.occ_refine.specs.occ_compare.Places.{assignment_at, byte_state, state_at}
use Rattle.occ_refine.specs.occ_compare.Views.{Values}
use Rattle.occ_refine.specs.occ_compare.Walk.{is_before}
use Rattle.occ_refine.specs.occ_node.Offers.{is_offered}
use Rattle.occ_refine.specs.occ_node.World.{row_of, fails, ends}
use Rattle.occ_refine.specs.occ_node.declared.node.NodeId.{NodeId}
use Rattle.occ_refine.specs.occ_node.declared.world.World.{World}
use Rattle.occ_refine.proofs.from_compare.Numbers.{bytes, small}
use Rattle.occ_refine.proofs.from_compare.Searching.{before_place, each_place, one_more}
use Rattle.occ_refine.proofs.from_compare.Walking.{among_is}
use Rattle.occ_refine.specs.Nodes.{behaviours_at}
use Rattle.occ_refine.specs.Rows.{IsLeastOf, NoneOf}
use Rattle.occ_refine.proofs.Bridge.{one_assignment}
use Rattle.occ_refine.proofs.Rooting.{down}
use Rattle.occ_traces.specs.Choices.{GoesFirst}
use Rattle.occ_traces.specs.Choosers.{CanAt, IsLeastChoice, IsLeastEnd, IsSure, NoEnd, is_end, is_wanted}
use Rattle.occ_traces.specs.declared.choices.Choice.{Choice}
use Rattle.occ_traces.specs.declared.choices.Choice.TheVariants.{TwoEnds, EndOrRefusal, EndOrEvent, EventOrRefusal}

-- ---- the search for an end
module _ (w : World) (ps : List (Name × Kind)) (a : NodeId) (but : Option ℕ) where
  pub end_tells : (k x : ℕ) → x ≡ assignment_at ps k → k < 2 ^ bits_of_scope ps → is_end w a but x ≡ true
      → ((j : ℕ) → j < k → is_end w a but (assignment_at ps j) ≡ false) → IsLeastEnd w ps a but x
  end_tells k x is h there all = record {
    within = subst (λ n. n < 2 ^ bits_of_scope ps) (sym is) (small ps k h);
    end = there;
    before = λ y m less. before_place ps (λ z. is_end w a but z ≡ false) k h all y m (subst (λ n. is_before ps y n ≡ true) is less);
  }

  pub none_ends : (k x : ℕ) → x ≡ assignment_at ps k → k + 1 ≡ 2 ^ bits_of_scope ps → is_end w a but x ≡ false
      → ((j : ℕ) → j < k → is_end w a but (assignment_at ps j) ≡ false) → NoEnd w ps a but
  none_ends k x is h here all = each_place ps (λ z. is_end w a but z ≡ false)
      (λ j m. one_more (λ n. is_end w a but (assignment_at ps n) ≡ false) k all (subst (λ n. is_end w a but n ≡ false) is here) j (omega arith))

  pub end_more : (k x : ℕ) → x ≡ assignment_at ps k → is_end w a but x ≡ false → ((j : ℕ) → j < k → is_end w a but (assignment_at ps j) ≡ false)
      → (j : ℕ) → j < k + 1 → is_end w a but (assignment_at ps j) ≡ false
  end_more k x is here all = one_more (λ n. is_end w a but (assignment_at ps n) ≡ false) k all (subst (λ n. is_end w a but n ≡ false) is here)

-- ---- the least choice
module _ (w : World) (ps : List (Name × Kind)) (few : bits_of_scope ps ≤ 64) (scope : scope_kept ps ≡ true) (a : NodeId) where
  abbrev End : Values → Type 0
  End s = (behaviours_at w ps a).ends [] s

  one_refusal : (e : Event) → fails w a [] (in_set (e ∷ [])) ≡ fails w a [] (among (e ∷ []))
  one_refusal e = ap (fails w a []) (fun_ext (λ f. sym (among_is (e ∷ []) f)))

  state_is : (x : ℕ) (s : Values) → s ≡ byte_state ps x → s ≡ state_at ps x
  state_is x s h = let told : byte_state ps ≡ state_at ps = bytes ps scope in h ∙ (λ i. told i x)

  -- where it has no end
  no_end : NoEnd w ps a None → (s : Values) → End s → ⊥
  no_end none s k = both_ways (ends w a [] k.0) (none k.0 k.1) k.3

  module _ (none : NoEnd w ps a None) (e : Event) (least : IsLeastOf ps (row_of w a).offers (is_wanted w a true) e) where
    earlier_refused : (d : Choice) → CanAt w ps a d → GoesFirst ps d (EventOrRefusal e) → ⊥
    earlier_refused (TwoEnds s u) h k = no_end none s h.0
    earlier_refused (EndOrRefusal s) h k = no_end none s h.0
    earlier_refused (EndOrEvent s f) h k = no_end none s h.0
    earlier_refused (EventOrRefusal f) h k = both_ways (is_offered (row_of w a).offers f && is_wanted w a true f) (least.before f k)
        (and_from (is_offered (row_of w a).offers f) (is_wanted w a true f) h.0 (one_refusal f ∙ h.1))

    pub refused_least : IsLeastChoice w ps a (EventOrRefusal e)
    refused_least =
        let parts = and_parts (is_offered (row_of w a).offers e) (is_wanted w a true e) least.passes in
        ((parts.0, sym (one_refusal e) ∙ parts.1), earlier_refused)

  -- where it has one
  there : (x : ℕ) → IsLeastEnd w ps a None x → (s : Values) → s ≡ state_at ps x → End s
  there x first s h = (x, first.within, h, first.end)

  -- no end is in front of the least one
  none_before : (x : ℕ) → IsLeastEnd w ps a None x → (s t : Values) → t ≡ state_at ps x → End s → state_less s t ≡ true → ⊥
  none_before x first s t h k less = both_ways (ends w a [] k.0)
      (first.before k.0 k.1 (subst (λ (z : Values). state_less (state_at ps k.0) z ≡ true) h (subst (λ (z : Values). state_less z t ≡ true) k.2 less))) k.3

  one_of : (y x : ℕ) (b : Bool) → cond (y == x) false b ≡ false → b ≡ true → y ≡ x
  one_of y x b h k = ⊎_elim
      (λ (t : (y == x) ≡ true). eqb-true y x t)
      (λ (f : (y == x) ≡ false). absurd (both_ways b (sym (ap (λ c. cond c false b) f) ∙ h) k))
      (cases_Bool (y == x))

  -- where no other end is, each is this one
  only_end : (x : ℕ) → NoEnd w ps a (Some x) → (s : Values) → End s → s ≡ state_at ps x
  only_end x none s k = k.2 ∙ ap (state_at ps) (one_of k.0 x (ends w a [] k.0) (none k.0 k.1) k.3)

  not_two : (x : ℕ) → NoEnd w ps a (Some x) → (s u : Values) → End s → End u → (s ≡ u → ⊥) → ⊥
  not_two x none s u h k apart = apart (only_end x none s h ∙ sym (only_end x none u k))

  -- two ends
  module _ (x y : ℕ) (first : IsLeastEnd w ps a None x) (next : IsLeastEnd w ps a (Some x) y) (s u : Values) (hs : s ≡ byte_state ps x) (hu : u ≡ byte_state ps y) where
    other : (y ≡ x) → ⊥
    other e = both_ways (cond (y == x) false (ends w a [] y)) (ap (λ c. cond c false (ends w a [] y)) (eq-eqb y x e)) next.end

    here : ends w a [] y ≡ true
    here = ⊎_elim
        (λ (t : (y == x) ≡ true). absurd (other (eqb-true y x t)))
        (λ (f : (y == x) ≡ false). sym (ap (λ c. cond c false (ends w a [] y)) f) ∙ next.end)
        (cases_Bool (y == x))

    -- an end apart from the least isn't in front of the next
    not_between : (t v : Values) → t ≡ s → End v → (t ≡ v → ⊥) → state_less v u ≡ true → ⊥
    not_between t v same k apart less =
        let differ : k.0 ≡ x → ⊥ = λ e. apart (same ∙ state_is x s hs ∙ sym (ap (state_at ps) e) ∙ sym k.2) in
        let off : (k.0 == x) ≡ false = ⊎_elim (λ (h : (k.0 == x) ≡ true). absurd (differ (eqb-true k.0 x h))) (λ (h : (k.0 == x) ≡ false). h) (cases_Bool (k.0 == x)) in
        both_ways (cond (k.0 == x) false (ends w a [] k.0))
        (next.before k.0 k.1 (subst (λ (z : Values). state_less (state_at ps k.0) z ≡ true) (state_is y u hu) (subst (λ (z : Values). state_less z u ≡ true) k.2 less)))
        (ap (λ c. cond c false (ends w a [] k.0)) off ∙ k.3)

    earlier_two : (d : Choice) → CanAt w ps a d → GoesFirst ps d (TwoEnds s u) → ⊥
    earlier_two (TwoEnds t v) h k = ⊎_elim
        (λ (less : state_less t s ≡ true). none_before x first t s (state_is x s hs) h.0 less)
        (λ (l : (t ≡ s) × (state_less v u ≡ true)). not_between t v l.0 h.1 h.2 l.1) k
    earlier_two (EndOrRefusal t) h k = k
    earlier_two (EndOrEvent t e) h k = k
    earlier_two (EventOrRefusal e) h k = k

    pub two_least : IsLeastChoice w ps a (TwoEnds s u)
    two_least = (
      (
        there x first s (state_is x s hs),
        (y, next.within, state_is y u hu, here),
        λ same. other (sym (one_assignment w ps few x y first.within next.within (sym (state_is x s hs) ∙ same ∙ state_is y u hu))),
      ),
      earlier_two,
    )

  -- one end
  module _ (x : ℕ) (first : IsLeastEnd w ps a None x) (none : NoEnd w ps a (Some x)) where
    module _ (s : Values) (hs : s ≡ byte_state ps x) where
      earlier_stable : (d : Choice) → CanAt w ps a d → GoesFirst ps d (EndOrRefusal s) → ⊥
      earlier_stable (TwoEnds t v) h k = not_two x none t v h.0 h.1 h.2
      earlier_stable (EndOrRefusal t) h k = none_before x first t s (state_is x s hs) h.0 k
      earlier_stable (EndOrEvent t e) h k = k
      earlier_stable (EventOrRefusal e) h k = k

      pub stable_least : fails w a [] (λ e. false) ≡ true → IsLeastChoice w ps a (EndOrRefusal s)
      stable_least stable = ((there x first s (state_is x s hs), stable), earlier_stable)

    -- what can't be stable refuses nothing
    refuses_more : fails w a [] (λ e. false) ≡ false → (X : EventSet) → fails w a [] X ≡ true → ⊥
    refuses_more off X h = both_ways (fails w a [] (λ e. false)) off (down w ps [] a X h)

    module _ (off : fails w a [] (λ e. false) ≡ false) where
      pub sure_ended : NoneOf (row_of w a).offers (is_wanted w a false) → IsSure w ps a
      sure_ended free (TwoEnds t v) h = not_two x none t v h.0 h.1 h.2
      sure_ended free (EndOrRefusal t) h = both_ways (fails w a [] (λ e. false)) off h.1
      sure_ended free (EndOrEvent t e) h = both_ways (is_offered (row_of w a).offers e && true) (free e) (and_from (is_offered (row_of w a).offers e) true h.1 refl)
      sure_ended free (EventOrRefusal e) h = refuses_more off (among (e ∷ [])) h.1

      module _ (s : Values) (hs : s ≡ byte_state ps x) (e : Event) (least : IsLeastOf ps (row_of w a).offers (is_wanted w a false) e) where
        earlier_event : (d : Choice) → CanAt w ps a d → GoesFirst ps d (EndOrEvent s e) → ⊥
        earlier_event (TwoEnds t v) h k = not_two x none t v h.0 h.1 h.2
        earlier_event (EndOrRefusal t) h k = both_ways (fails w a [] (λ e. false)) off h.1
        earlier_event (EndOrEvent t f) h k = ⊎_elim
            (λ (less : state_less t s ≡ true). none_before x first t s (state_is x s hs) h.0 less)
            (λ (l : (t ≡ s) × (is_lt (print_cmp ps f e) ≡ true)). both_ways (is_offered (row_of w a).offers f && true) (least.before f l.1)
            (and_from (is_offered (row_of w a).offers f) true h.1 refl)) k
        earlier_event (EventOrRefusal f) h k = k

        pub event_least : IsLeastChoice w ps a (EndOrEvent s e)
        event_least = ((there x first s (state_is x s hs), (and_parts (is_offered (row_of w a).offers e) true least.passes).0), earlier_event)
