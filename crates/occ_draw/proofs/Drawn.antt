-- The edges of a row are exactly its offers.
use Rattle.std.proofs.Common.{◌≡◌, ◌==◌, ◌&&◌, ◌||◌, not, ℕ, Bool, true, false, cond, List, [], ◌∷◌, ◌++◌, inl, inr, refl, sym, ap, ◌∙◌}
use Rattle.std.proofs.lemmas.Bool.{and_parts, or_cases, or_from, eqb-true, eq-eqb, both_ways, false_from_ne_true, false≢true}
use Rattle.std.specs.Prelude.{◌⊎◌}
use Rattle.std.specs.List.{filter, list_any, AllByRecursion}
use Rattle.occ_syntax.specs.occ_base.declared.event.Event.{Event}
use Rattle.occ_syntax.specs.Scopes.{same_event}
use Rattle.occ_draw.specs.declared.edges.Edge.{Edge}
use Rattle.occ_draw.specs.Spans.{same_end}
use Rattle.occ_draw.specs.Edges.{alike, edges_of, events_like, is_drawn, is_offered}
use Rattle.occ_draw.proofs.Alike.{Alike, alike_back, alike_is, alike_through, is_alike}
use Rattle.occ_draw.proofs.Ends.{OneEnd, one_end, through, turned}
use Rattle.occ_draw.proofs.Spanned.{spanned}

or_false : (b : Bool) → (b || false) ≡ b
or_false true = refl
or_false false = refl

module _ (e : Event) (n : ℕ) where
  -- the offer is that of the event to row n
  abbrev hits : Event × ℕ → Bool
  hits o = o.1 == n && same_event e o.0

  hit_is : (o : Event × ℕ) → hits o ≡ true → Alike o (e, n)
  hit_is o h =
      let p = and_parts (o.1 == n) (same_event e o.0) h in
      let q = and_parts (same_end e o.0) (e.value == o.0.value) p.1 in
      record { ends = turned e o.0 (one_end e o.0 q.0); target = eqb-true o.1 n p.0 }

  -- an edge leads to row n with the event
  abbrev leads : Edge → Bool
  leads edge = edge.offer.1 == n && list_any (same_event e) edge.events

  -- ---- the events of an edge

  -- an event that is on no edge like that of the offer is none of those like it
  off_end : (o : Event × ℕ) (offers : List (Event × ℕ)) → list_any (same_event e) (events_like o offers) ≡ true → OneEnd o.0 e
  off_end o [] h = absurd (false≢true h)
  off_end o (p ∷ offers) h = by (off_end o offers) (alike o p) refl h
    where
      by : (list_any (same_event e) (events_like o offers) ≡ true → OneEnd o.0 e) → (b : Bool) → alike o p ≡ b → list_any (same_event e) (cond b (p.0 ∷ []) [] ++ events_like o offers) ≡ true → OneEnd o.0 e
      by rest false is h = rest h
      by rest true is h = at (or_cases (same_event e p.0) (list_any (same_event e) (events_like o offers)) h)
        where
          at : (same_event e p.0 ≡ true) ⊎ (list_any (same_event e) (events_like o offers) ≡ true) → OneEnd o.0 e
          at (inl same) = through o.0 p.0 e (alike_is o p is).ends (turned e p.0 (one_end e p.0 (and_parts (same_end e p.0) (e.value == p.0.value) same).0))
          at (inr more) = rest more

  -- the event is at an edge only where it is on its channel
  abbrev OnEnd : Edge → Type 0
  OnEnd edge = list_any (same_event e) edge.events ≡ true → OneEnd edge.offer.0 e

  first_on_end : (o : Event × ℕ) (offers : List (Event × ℕ)) → list_any (same_event e) (o.0 ∷ events_like o offers) ≡ true → OneEnd o.0 e
  first_on_end o offers h = at (or_cases (same_event e o.0) (list_any (same_event e) (events_like o offers)) h)
    where
      at : (same_event e o.0 ≡ true) ⊎ (list_any (same_event e) (events_like o offers) ≡ true) → OneEnd o.0 e
      at (inl same) = turned e o.0 (one_end e o.0 (and_parts (same_end e o.0) (e.value == o.0.value) same).0)
      at (inr more) = off_end o offers more

  kept_on_end : (test : Edge → Bool) (edges : List Edge) → AllByRecursion OnEnd edges → AllByRecursion OnEnd (filter test edges)
  kept_on_end test [] all = tt
  kept_on_end test (edge ∷ edges) all = by (kept_on_end test edges all.1) (test edge)
    where
      by : AllByRecursion OnEnd (filter test edges) → (b : Bool) → AllByRecursion OnEnd (cond b (edge ∷ filter test edges) (filter test edges))
      by rest true = (all.0, rest)
      by rest false = rest

  all_on_end : (offers : List (Event × ℕ)) → AllByRecursion OnEnd (edges_of offers)
  unfolding edges_of
  all_on_end [] = tt
  all_on_end (o ∷ offers) = (first_on_end o offers, kept_on_end (λ edge. not (alike o edge.offer)) (edges_of offers) (all_on_end offers))

  leads_is : (edge : Edge) → OnEnd edge → leads edge ≡ true → Alike edge.offer (e, n)
  leads_is edge on h = let p = and_parts (edge.offer.1 == n) (list_any (same_event e) edge.events) h in record { ends = on p.1; target = eqb-true edge.offer.1 n p.0 }

  -- ---- the first edge, where the offer is like it
  first_leads : (o : Event × ℕ) (offers : List (Event × ℕ)) → alike o (e, n) ≡ true → list_any (same_event e) (events_like o offers) ≡ list_any hits offers
  first_leads o [] own = refl
  first_leads o (p ∷ offers) own = by (first_leads o offers own) (alike o p) refl
    where
      by : list_any (same_event e) (events_like o offers) ≡ list_any hits offers → (b : Bool) → alike o p ≡ b → list_any (same_event e) (cond b (p.0 ∷ []) [] ++ events_like o offers) ≡ (hits p || list_any hits offers)
      by rest true is =
          let there : (p.1 == n) ≡ true = eq-eqb p.1 n (sym (alike_is o p is).target ∙ (alike_is o (e, n) own).target) in
          ap (λ b. b || list_any (same_event e) (events_like o offers)) (ap (λ b. b && same_event e p.0) (sym there))
          ∙ ap (λ b. (p.1 == n && same_event e p.0) || b) rest
      by rest false is =
          let away : hits p ≡ false = false_from_ne_true (hits p) (λ h. both_ways (alike o p) is (is_alike o p (alike_through o (e, n) p (alike_is o (e, n) own) (alike_back p (e, n) (hit_is p h))))) in
          rest ∙ ap (λ b. b || list_any hits offers) (sym away)

  -- ---- the edges of the other offers

  -- those that aren't like an offer that the event isn't like
  others_lead : (o : Event × ℕ) (edges : List Edge) → AllByRecursion OnEnd edges → alike o (e, n) ≡ false → list_any leads (filter (λ edge. not (alike o edge.offer)) edges) ≡ list_any leads edges
  others_lead o [] all other = refl
  others_lead o (edge ∷ edges) all other = by (others_lead o edges all.1 other) (alike o edge.offer) refl
    where
      by : list_any leads (filter (λ edge. not (alike o edge.offer)) edges) ≡ list_any leads edges → (b : Bool) → alike o edge.offer ≡ b → list_any leads (cond (not b) (edge ∷ filter (λ edge. not (alike o edge.offer)) edges) (filter (λ edge. not (alike o edge.offer)) edges)) ≡ (leads edge || list_any leads edges)
      by rest false is = ap (λ b. leads edge || b) rest
      by rest true is =
          let away : leads edge ≡ false = false_from_ne_true (leads edge) (λ h. both_ways (alike o (e, n)) other (is_alike o (e, n) (alike_through o edge.offer (e, n) (alike_is o edge.offer is) (leads_is edge all.0 h)))) in
          rest ∙ ap (λ b. b || list_any leads edges) (sym away)

  -- those that aren't like an offer that the event is like
  none_leads : (o : Event × ℕ) (edges : List Edge) → AllByRecursion OnEnd edges → alike o (e, n) ≡ true → list_any leads (filter (λ edge. not (alike o edge.offer)) edges) ≡ false
  none_leads o [] all own = refl
  none_leads o (edge ∷ edges) all own = by (none_leads o edges all.1 own) (alike o edge.offer) refl
    where
      by : list_any leads (filter (λ edge. not (alike o edge.offer)) edges) ≡ false → (b : Bool) → alike o edge.offer ≡ b → list_any leads (cond (not b) (edge ∷ filter (λ edge. not (alike o edge.offer)) edges) (filter (λ edge. not (alike o edge.offer)) edges)) ≡ false
      by rest true is = rest
      by rest false is = or_from (leads edge) _
          (false_from_ne_true (leads edge) (λ h. both_ways (alike o edge.offer) is (is_alike o edge.offer (alike_through o (e, n) edge.offer (alike_is o (e, n) own) (alike_back edge.offer (e, n) (leads_is edge all.0 h))))))
          rest

  -- ---- all edges
  all_lead : (offers : List (Event × ℕ)) → list_any leads (edges_of offers) ≡ list_any hits offers
  unfolding edges_of
  all_lead [] = refl
  all_lead (o ∷ offers) = by (all_lead offers) (alike o (e, n)) refl
    where
      by : list_any leads (edges_of offers) ≡ list_any hits offers → (b : Bool) → alike o (e, n) ≡ b → (leads (record { offer = o; events = o.0 ∷ events_like o offers }) || list_any leads (filter (λ edge. not (alike o edge.offer)) (edges_of offers))) ≡ (hits o || list_any hits offers)
      by rest true own =
          let there : (o.1 == n) ≡ true = eq-eqb o.1 n (alike_is o (e, n) own).target in
          let more = list_any (same_event e) (events_like o offers) in
          ap (λ b. ((o.1 == n) && (same_event e o.0 || more)) || b) (none_leads o (edges_of offers) (all_on_end offers) own)
          ∙ or_false ((o.1 == n) && (same_event e o.0 || more))
          ∙ ap (λ b. b && (same_event e o.0 || more)) there
          ∙ ap (λ b. same_event e o.0 || b) (first_leads o offers own)
          ∙ ap (λ b. (b && same_event e o.0) || list_any hits offers) (sym there)
      by rest false other =
          let edge : Edge = record { offer = o; events = o.0 ∷ events_like o offers } in
          let away : leads edge ≡ false = false_from_ne_true (leads edge) (λ h. both_ways (alike o (e, n)) other (is_alike o (e, n) (leads_is edge (first_on_end o offers) h))) in
          let off : hits o ≡ false = false_from_ne_true (hits o) (λ h. both_ways (alike o (e, n)) other (is_alike o (e, n) (hit_is o h))) in
          ap (λ b. b || list_any leads (filter (λ edge. not (alike o edge.offer)) (edges_of offers))) away
          ∙ others_lead o (edges_of offers) (all_on_end offers) other ∙ rest ∙ ap (λ b. b || list_any hits offers) (sym off)

pub edges_are : (offers : List (Event × ℕ)) (e : Event) (n : ℕ) → is_drawn offers e n ≡ is_offered offers e n
edges_are offers e n = (λ i. list_any (λ (edge : Edge). edge.offer.1 == n && spanned e edge.events i) (edges_of offers)) ∙ all_lead e n offers
