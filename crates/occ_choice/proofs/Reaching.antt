use Rattle.std.proofs.Common.{◌≡◌, ◌<◌, ◌≤◌, ◌+◌, ◌++◌, ℕ, zero, suc, Bool, true, false, cond, List, [], ◌∷◌, Option, Some, None, length, get_or, map, take, is_some, nat_lt, refl, sym, ap, ◌∙◌, subst, ⊎_elim, arith}
use Rattle.std.proofs.lemmas.Bool.{and_parts, and_from, cases_Bool, ltb-true, lt-ltb}
use Rattle.std.proofs.lemmas.List.{take_more, take_all, map-append}
use Rattle.std.proofs.lemmas.List.Elements.{All-push}
use Rattle.std.proofs.lemmas.List.Folds.{list_all-map}
use Rattle.std.proofs.lemmas.Option.{same_Some}
use Rattle.std.specs.List.{list_all, All}
use Rattle.std.specs.Option.{IfSome}
use Rattle.std.specs.Ordering.{is_lt, eq_by_cmp}
use Rattle.occ_node.specs.occ_base.declared.event.Event.{Event}
use Rattle.occ_node.specs.occ_accept.Order.{event_cmp, strict}
use Rattle.occ_node.specs.occ_accept.Accept.{in_set}
use Rattle.occ_node.proofs.from_accept.Strict.{all_more, tied_same}
use Rattle.occ_node.proofs.from_accept.Events.{cmp_total, event_exact}
use Rattle.occ_node.specs.Offers.{offer_cmp, next_in, is_offered, are_below}
use Rattle.occ_node.specs.Rows.{goes_on}
use Rattle.occ_node.specs.World.{IsNode, nodes_of, fails, ends, Leads}
use Rattle.occ_node.specs.declared.node.NodeId.{NodeId}
use Rattle.occ_node.specs.declared.world.World.{World}
use Rattle.occ_node.proofs.Places.{events_offered}
use Rattle.occ_node.proofs.Behaviours.{node-leads, offered_node}
use Rattle.occ_choice.specs.Joined.{maybe_fails, maybe_ends, Reaches, AreReached}

-- ---- a node that may be there
pub maybe_fails-leads : (v w : World) → Leads v w → (o : Option NodeId) → IfSome o (IsNode v) → (t : List Event) (X : Event → Bool) → maybe_fails w o t X ≡ maybe_fails v o t X
maybe_fails-leads v w k None known t X = refl
maybe_fails-leads v w k (Some a) known t X = k.same_fails a t X known

pub maybe_ends-leads : (v w : World) → Leads v w → (o : Option NodeId) → IfSome o (IsNode v) → (t : List Event) (x : ℕ) → maybe_ends w o t x ≡ maybe_ends v o t x
maybe_ends-leads v w k None known t x = refl
maybe_ends-leads v w k (Some a) known t x = k.same_ends a t x known

pub some-leads : (v w : World) → Leads v w → (o : Option NodeId) → IfSome o (IsNode v) → IfSome o (IsNode w)
some-leads v w k None known = tt
some-leads v w k (Some a) known = node-leads v w k a known

pub reaches-leads : (v w : World) → Leads v w → (r : Option NodeId) (F : List Event → (Event → Bool) → Bool) (G : List Event → ℕ → Bool) → Reaches v r F G → Reaches w r F G
reaches-leads v w k r F G is = record {
  known = some-leads v w k r is.known;
  failures = λ t X. maybe_fails-leads v w k r is.known t X ∙ is.failures t X;
  endings = λ t x. maybe_ends-leads v w k r is.known t x ∙ is.endings t x;
}

pub reaches_same : (w : World) (r : Option NodeId) (F F' : List Event → (Event → Bool) → Bool) (G G' : List Event → ℕ → Bool)
    → ((t : List Event) (X : Event → Bool) → F t X ≡ F' t X) → ((t : List Event) (x : ℕ) → G t x ≡ G' t x) → Reaches w r F G → Reaches w r F' G'
reaches_same w r F F' G G' f g is = record { known = is.known; failures = λ t X. is.failures t X ∙ f t X; endings = λ t x. is.endings t x ∙ g t x }

-- ---- offers that lead to what is wanted
pub reached-leads : (v w : World) → Leads v w → (offers : List (Event × NodeId)) (events : List Event) (F : List Event → (Event → Bool) → Bool) (G : List Event → ℕ → Bool) → AreReached v offers events F G → AreReached w offers events F G
reached-leads v w k offers events F G are = record {
  events_are = are.events_are;
  lead_on = λ i d h. reaches-leads v w k (Some (get_or offers i d).1) _ _ (are.lead_on i d h);
}

pub reached_push : (w : World) (offers : List (Event × NodeId)) (events : List Event) (i : ℕ) (e d : Event) (n : NodeId) (F : List Event → (Event → Bool) → Bool) (G : List Event → ℕ → Bool)
    → i < length events → e ≡ get_or events i d → AreReached w offers (take i events) F G → Reaches w (Some n) (λ t X. F (e ∷ t) X) (λ t x. G (e ∷ t) x) → AreReached w (offers ++ (e, n) ∷ []) (take (i + 1) events) F G
reached_push w offers events i e d n F G h at are reaches = record {
  events_are = map-append (λ (o : Event × NodeId). o.0) offers ((e, n) ∷ []) ∙ ap (λ xs. xs ++ e ∷ []) are.events_are ∙ ap (λ f. take i events ++ f ∷ []) at ∙ sym (take_more events i d h);
  lead_on = All-push (λ (o : Event × NodeId). Reaches w (Some o.1) (λ t X. F (o.0 ∷ t) X) (λ t x. G (o.0 ∷ t) x)) offers (e, n) are.lead_on reaches;
}

pub reached_whole : (w : World) (offers : List (Event × NodeId)) (items events : List Event) (i : ℕ) (F : List Event → (Event → Bool) → Bool) (G : List Event → ℕ → Bool) → length items ≤ i → items ≡ events
    → AreReached w offers (take i items) F G → AreReached w offers events F G
reached_whole w offers items events i F G h same are = subst (λ xs. AreReached w offers xs F G) (take_all i items h ∙ same) are

-- what an offer leads to
reached_at : (w : World) (F : List Event → (Event → Bool) → Bool) (G : List Event → ℕ → Bool) (offers : List (Event × NodeId)) → All (λ o. Reaches w (Some o.1) (λ t X. F (o.0 ∷ t) X) (λ t x. G (o.0 ∷ t) x)) offers
    → (e : Event) (n : NodeId) → next_in offers e ≡ Some n → (o : Event × NodeId) × (e ≡ o.0) × (n ≡ o.1) × Reaches w (Some o.1) (λ t X. F (o.0 ∷ t) X) (λ t x. G (o.0 ∷ t) x)
reached_at w F G [] all e n h = cc
reached_at w F G (o ∷ offers) all e n h = ⊎_elim
    (λ (q : eq_by_cmp event_cmp e o.0 ≡ true). (o, tied_same cmp_total event_exact e o.0 q, same_Some n o.1 (sym h ∙ ap (λ c. cond c (Some o.1) (next_in offers e)) q), all zero o (omega arith)))
    (λ (q : eq_by_cmp event_cmp e o.0 ≡ false). reached_at w F G offers (λ i d k. all (suc i) d (omega arith)) e n (sym (ap (λ c. cond c (Some o.1) (next_in offers e)) q) ∙ h))
    (cases_Bool (eq_by_cmp event_cmp e o.0))

pub offers_fail : (w : World) (offers : List (Event × NodeId)) (events : List Event) (F : List Event → (Event → Bool) → Bool) (G : List Event → ℕ → Bool) → AreReached w offers events F G
    → (e : Event) (t : List Event) (X : Event → Bool) → (in_set events e ≡ false → F (e ∷ t) X ≡ false) → goes_on (next_in offers e) (λ a. fails w a t X) ≡ F (e ∷ t) X
offers_fail w offers events F G are e t X out = by (next_in offers e) refl
  where
    by : (o : Option NodeId) → next_in offers e ≡ o → goes_on o (λ a. fails w a t X) ≡ F (e ∷ t) X
    by None h = sym (out (sym (ap (λ xs. in_set xs e) are.events_are) ∙ events_offered offers e ∙ ap is_some h))
    by (Some n) h = let v = reached_at w F G offers are.lead_on e n h in
        ap (λ a. fails w a t X) v.2 ∙ v.3.failures t X ∙ ap (λ f. F (f ∷ t) X) (sym v.1)

pub offers_end : (w : World) (offers : List (Event × NodeId)) (events : List Event) (F : List Event → (Event → Bool) → Bool) (G : List Event → ℕ → Bool) → AreReached w offers events F G
    → (e : Event) (t : List Event) (x : ℕ) → (in_set events e ≡ false → G (e ∷ t) x ≡ false) → goes_on (next_in offers e) (λ a. ends w a t x) ≡ G (e ∷ t) x
offers_end w offers events F G are e t x out = by (next_in offers e) refl
  where
    by : (o : Option NodeId) → next_in offers e ≡ o → goes_on o (λ a. ends w a t x) ≡ G (e ∷ t) x
    by None h = sym (out (sym (ap (λ xs. in_set xs e) are.events_are) ∙ events_offered offers e ∙ ap is_some h))
    by (Some n) h = let v = reached_at w F G offers are.lead_on e n h in
        ap (λ a. ends w a t x) v.2 ∙ v.3.endings t x ∙ ap (λ f. G (f ∷ t) x) (sym v.1)

-- ---- that the offers fit
strict_map : (offers : List (Event × NodeId)) → strict event_cmp (map (λ (o : Event × NodeId). o.0) offers) ≡ true → strict offer_cmp offers ≡ true
strict_map [] h = refl
strict_map (o ∷ offers) h =
    let p = and_parts (list_all (λ f. is_lt (event_cmp o.0 f)) (map (λ (o : Event × NodeId). o.0) offers)) (strict event_cmp (map (λ (o : Event × NodeId). o.0) offers)) h in
    and_from (list_all (λ q. is_lt (event_cmp o.0 q.0)) offers) (strict offer_cmp offers) (sym (list_all-map (λ f. is_lt (event_cmp o.0 f)) (λ (q : Event × NodeId). q.0) offers) ∙ p.0) (strict_map offers p.1)

pub reached_strict : (w : World) (offers : List (Event × NodeId)) (events : List Event) (F : List Event → (Event → Bool) → Bool) (G : List Event → ℕ → Bool) → AreReached w offers events F G → strict event_cmp events ≡ true → strict offer_cmp offers ≡ true
reached_strict w offers events F G are h = strict_map offers (ap (strict event_cmp) are.events_are ∙ h)

below_all : (n : ℕ) (offers : List (Event × NodeId)) → All (λ o. o.1.0 < n) offers → are_below n offers ≡ true
below_all n [] all = refl
below_all n (o ∷ offers) all = and_from (nat_lt o.1.0 n) (are_below n offers) (lt-ltb o.1.0 n (all zero o (omega arith))) (below_all n offers (λ i d h. all (suc i) d (omega arith)))

pub reached_below : (w : World) (offers : List (Event × NodeId)) (events : List Event) (F : List Event → (Event → Bool) → Bool) (G : List Event → ℕ → Bool) → AreReached w offers events F G → are_below (nodes_of w) offers ≡ true
reached_below w offers events F G are = below_all (nodes_of w) offers (λ i d h. (are.lead_on i d h).known)

pub reached_offered : (w : World) (offers : List (Event × NodeId)) (events : List Event) (F : List Event → (Event → Bool) → Bool) (G : List Event → ℕ → Bool) → AreReached w offers events F G → (e : Event) → in_set events e ≡ is_offered offers e
reached_offered w offers events F G are e = sym (ap (λ xs. in_set xs e) are.events_are) ∙ events_offered offers e

-- ---- rows that are in no table
pub below-leads : (v w : World) → Leads v w → (offers : List (Event × NodeId)) → are_below (nodes_of v) offers ≡ true → are_below (nodes_of w) offers ≡ true
below-leads v w k offers h = let more : nodes_of v ≤ nodes_of w = k.more in
    all_more (λ (o : Event × NodeId). nat_lt o.1.0 (nodes_of v)) (λ o. nat_lt o.1.0 (nodes_of w)) (λ o m. let l : o.1.0 < nodes_of v = ltb-true o.1.0 (nodes_of v) m in lt-ltb o.1.0 (nodes_of w) (omega arith)) offers h

pub next_known : (w : World) (offers : List (Event × NodeId)) (e : Event) → are_below (nodes_of w) offers ≡ true → IfSome (next_in offers e) (IsNode w)
next_known w offers e h = by (next_in offers e) refl
  where
    by : (o : Option NodeId) → next_in offers e ≡ o → IfSome o (IsNode w)
    by None k = tt
    by (Some n) k = offered_node w offers e n h k
