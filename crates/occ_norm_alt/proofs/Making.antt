-- Nodes that wait for events: those that are prefixed, merged, turned, and as the world grows.
use Rattle.std.proofs.Common.{◌≡◌, ◌<◌, ◌+◌, ◌%◌, ◌^◌, ℕ, Bool, true, false, not, ◌||◌, ◌&&◌, List, [], ◌∷◌, refl, sym, ap, ◌∙◌, subst, inl, inr, ⊎_elim, arith}
use Rattle.std.specs.Prelude.{◌↔◌, ◌⊎◌, bit_xor}
use Rattle.std.specs.List.{list_all}
use Rattle.std.specs.Ordering.{eq_by_cmp}
use Rattle.std.proofs.lemmas.Bool.{and_from, and_parts, cases_Bool, both_ways, or_cases, or_left, or_right}
use Rattle.std.proofs.lemmas.List.Folds.{list_all-append, list_any-append}
use Rattle.std.proofs.lemmas.Nat.{xor_lt}
use Rattle.std.proofs.lemmas.Nat.Bits.{bit_at_xor, same_from_bits}
use Rattle.std.specs.Int.{bit_at}
use Rattle.occ_syntax.specs.occ_base.declared.event.Event.{Event}
use Rattle.occ_norm_frame.specs.occ_accept.Order.{event_cmp}
use Rattle.occ_norm_frame.proofs.from_accept.Events.{cmp_total, event_exact}
use Rattle.occ_norm_frame.proofs.from_accept.Strict.{tied, tied_same}
use Rattle.occ_norm_frame.specs.occ_node.Offers.{is_offered}
use Rattle.occ_norm_frame.specs.occ_node.World.{Grows, IsNode, row_of, fails, ends}
use Rattle.occ_norm_frame.specs.occ_node.Canonical.{HasTrace}
use Rattle.occ_norm_frame.specs.occ_node.declared.node.NodeId.{NodeId}
use Rattle.occ_norm_frame.specs.occ_node.declared.world.World.{World}
use Rattle.occ_norm_frame.proofs.from_node.Behaviours.{is_row, fails_cons, ends_cons}
use Rattle.occ_norm_frame.specs.occ_choice.Branches.{branch_fails, branch_ends, is_unready}
use Rattle.occ_norm_frame.specs.occ_choice.declared.branch.Branch.TheVariants.{Event as Comm}
use Rattle.occ_norm_frame.proofs.from_weave.Growth.{trans_iff, iff_of_same}
use Rattle.occ_norm_frame.specs.Lifted.{IsMerged, IsPrefixed, IsTurned, branches_of}
use Rattle.occ_norm_frame.specs.Growth.{alt_now, node_grow, one_branch}
use Rattle.occ_norm_alt.specs.Offering.{IsOffering}
use Rattle.occ_norm_alt.proofs.Offering.{branches_end, branches_end_not, branches_fail, branches_fail_not, branches_wait, is_false, is_not, no_behaviour, offered_trace, or_iff, or_nothing, sum_iff, trace_offered}

-- ---- the same in other words
pub offering_same : (w : World) (a : NodeId) (T U : Event → Type 0) (F G : Event → List Event → (Event → Bool) → Type 0) (E H : Event → List Event → ℕ → Type 0) → IsOffering w a T F E
    → ((e : Event) → T e ↔ U e) → ((e : Event) (t : List Event) (X : Event → Bool) → F e t X ↔ G e t X) → ((e : Event) (t : List Event) (z : ℕ) → z < 2 ^ 64 → E e t z ↔ H e t z) → IsOffering w a U G H
offering_same w a T U F G E H is takes fail end = record {
  known = is.known;
  offers = λ e. trans_iff (is.offers e) (takes e);
  refuses = λ X. (λ h e k. (is.refuses X).0 h e ((takes e).1 k), λ h. (is.refuses X).1 (λ e k. h e ((takes e).0 k)));
  not_ended = is.not_ended;
  fail_on = λ e t X. trans_iff (is.fail_on e t X) (fail e t X);
  end_on = λ e t z small. trans_iff (is.end_on e t z small) (end e t z small);
}

-- ---- in a later world
pub offering_grow : (v w : World) → Grows v w → (a : NodeId) (T : Event → Type 0) (F : Event → List Event → (Event → Bool) → Type 0) (E : Event → List Event → ℕ → Type 0) → IsOffering v a T F E → IsOffering w a T F E
offering_grow v w g a T F E is = record {
  known = node_grow v w g a is.known;
  offers = λ e. trans_iff (iff_of_same _ _ (ap (λ r. is_offered r.offers e) (g.kept a is.known))) (is.offers e);
  refuses = λ X. trans_iff (iff_of_same _ _ (g.same_fails a [] X is.known)) (is.refuses X);
  not_ended = λ z small. g.same_ends a [] z is.known ∙ is.not_ended z small;
  fail_on = λ e t X. trans_iff (iff_of_same _ _ (g.same_fails a (e ∷ t) X is.known)) (is.fail_on e t X);
  end_on = λ e t z small. trans_iff (iff_of_same _ _ (g.same_ends a (e ∷ t) z is.known)) (is.end_on e t z small);
}

-- ---- one that offers nothing
pub offering_nothing : (w : World) (a : NodeId) → IsNode w a → ((X : Event → Bool) → fails w a [] X ≡ true) → ((e : Event) (t : List Event) (X : Event → Bool) → fails w a (e ∷ t) X ≡ false)
    → ((t : List Event) (z : ℕ) → ends w a t z ≡ false) → IsOffering w a (λ e. ⊥) (λ e t X. ⊥) (λ e t z. ⊥)
offering_nothing w a known now once never = record {
  known = known;
  offers = λ e. (λ h. nothing e (trace_offered w a e known h), λ h. absurd h);
  refuses = λ X. (λ h e k. absurd k, λ h. now X);
  not_ended = λ z small. never [] z;
  fail_on = λ e t X. (λ h. both_ways (fails w a (e ∷ t) X) (once e t X) h, λ h. absurd h);
  end_on = λ e t z small. (λ h. both_ways (ends w a (e ∷ t) z) (never (e ∷ t) z) h, λ h. absurd h);
}
  where
    nothing : (e : Event) → (t : List Event) × HasTrace w a (e ∷ t) → ⊥
    nothing e (t, k) = ⊎_elim
        (λ (h : fails w a (e ∷ t) (λ e. false) ≡ true). both_ways (fails w a (e ∷ t) (λ e. false)) (once e t (λ e. false)) h)
        (λ (h : (x : ℕ) × (x < 2 ^ 64) × (ends w a (e ∷ t) x ≡ true)). both_ways (ends w a (e ∷ t) h.0) (never (e ∷ t) h.0) h.2)
        k

-- ---- after one event
first_of : (a : Bool) → ((a && true) || (false || false)) ≡ a
first_of true = refl
first_of false = refl

alone : (a : Bool) → (false || (a || false)) ≡ a
alone true = refl
alone false = refl

pub event_iff : (e f : Event) (b : Bool) → ((eq_by_cmp event_cmp e f && b) ≡ true) ↔ ((e ≡ f) × (b ≡ true))
event_iff e f b = (
  λ h. let parts = and_parts (eq_by_cmp event_cmp e f) b h in (tied_same cmp_total event_exact e f parts.0, parts.1),
  λ h. and_from (eq_by_cmp event_cmp e f) b (subst (λ g. eq_by_cmp event_cmp e g ≡ true) h.0 (tied cmp_total e)) h.1,
)

module _ (w : World) (event : Event) (p r : NodeId) (is : IsPrefixed w event p r) where
  prefix_now : (X : Event → Bool) → fails w r [] X ≡ not (X event)
  prefix_now X = is.prefixed.alt_fails [] X ∙ first_of (not (X event))

  prefix_fails : (e : Event) (t : List Event) (X : Event → Bool) → (fails w r (e ∷ t) X ≡ true) ↔ ((e ≡ event) × (fails w p t X ≡ true))
  prefix_fails e t X = trans_iff (iff_of_same _ _ (is.prefixed.alt_fails (e ∷ t) X ∙ alone (eq_by_cmp event_cmp e event && fails w p t X))) (event_iff e event (fails w p t X))

  prefix_ends : (e : Event) (t : List Event) (z : ℕ) → (ends w r (e ∷ t) z ≡ true) ↔ ((e ≡ event) × (ends w p t z ≡ true))
  prefix_ends e t z = trans_iff (iff_of_same _ _ (is.prefixed.alt_ends (e ∷ t) z ∙ or_nothing w (eq_by_cmp event_cmp e event && ends w p t z))) (event_iff e event (ends w p t z))

  begins : (e : Event) → (t : List Event) × HasTrace w r (e ∷ t) → e ≡ event
  begins e (t, k) = ⊎_elim
      (λ (h : fails w r (e ∷ t) (λ e. false) ≡ true). ((prefix_fails e t (λ e. false)).0 h).0)
      (λ (h : (x : ℕ) × (x < 2 ^ 64) × (ends w r (e ∷ t) x ≡ true)). ((prefix_ends e t h.0).0 h.2).0)
      k

  offers_it : is_offered (row_of w r).offers event ≡ true
  offers_it = ⊎_elim
      (λ (h : is_offered (row_of w r).offers event ≡ true). h)
      (λ (h : is_offered (row_of w r).offers event ≡ false). absurd (no_behaviour w p is.first
      (⊎_elim (λ (k : fails w p [] (λ e. false) ≡ true). absurd (both_ways _ h (offered_trace w r event [] is.prefixed.known (inl ((prefix_fails event [] (λ e. false)).1 (refl, k))))))
      (λ (k : fails w p [] (λ e. false) ≡ false). k) (cases_Bool (fails w p [] (λ e. false))))
      (λ x small. ⊎_elim (λ (k : ends w p [] x ≡ true). absurd (both_ways _ h (offered_trace w r event [] is.prefixed.known (inr (x, small, (prefix_ends event [] x).1 (refl, k))))))
      (λ (k : ends w p [] x ≡ false). k) (cases_Bool (ends w p [] x)))))
      (cases_Bool (is_offered (row_of w r).offers event))

  pub offering_prefixed : IsOffering w r (λ e. e ≡ event) (λ e t X. (e ≡ event) × (fails w p t X ≡ true)) (λ e t z. (e ≡ event) × (ends w p t z ≡ true))
  offering_prefixed = record {
    known = is.prefixed.known;
    offers = λ e. (λ h. begins e (trace_offered w r e is.prefixed.known h), λ h. subst (λ f. is_offered (row_of w r).offers f ≡ true) (sym h) offers_it);
    refuses = λ X. (λ h e k. ap X k ∙ is_false (X event) (sym (prefix_now X) ∙ h), λ h. prefix_now X ∙ is_not (X event) (h event refl));
    not_ended = λ z small. is.prefixed.alt_ends [] z;
    fail_on = prefix_fails;
    end_on = λ e t z small. prefix_ends e t z;
  }

pub prefixed_later : (v w : World) → Grows v w → (event : Event) (p r : NodeId) → IsPrefixed v event p r → IsPrefixed w event p r
prefixed_later v w g event p r is = record {
  first = node_grow v w g p is.first;
  prefixed = alt_now v w g (Comm event p ∷ []) r (one_branch v event p is.first) (record {
    known = node_grow v w g r is.prefixed.known;
    alt_fails = λ t X. g.same_fails r t X is.prefixed.known ∙ is.prefixed.alt_fails t X;
    alt_ends = λ t x. g.same_ends r t x is.prefixed.known ∙ is.prefixed.alt_ends t x;
  });
}

-- ---- both together
module _ (w : World) (p q r : NodeId) (T U : Event → Type 0) (F G : Event → List Event → (Event → Bool) → Type 0) (E H : Event → List Event → ℕ → Type 0)
    (one : IsOffering w p T F E) (other : IsOffering w q U G H) (is : IsMerged w p q r) where
  merged_now : (X : Event → Bool) → fails w r [] X ≡ (list_all (is_unready X) (branches_of (row_of w p).offers) && list_all (is_unready X) (branches_of (row_of w q).offers))
  merged_now X = is.merged.alt_fails [] X
      ∙ (λ i. list_all-append (is_unready X) (branches_of (row_of w p).offers) (branches_of (row_of w q).offers) i
      || (list_any-append (branch_fails w [] X) (branches_of (row_of w p).offers) (branches_of (row_of w q).offers) ∙ (λ j. branches_fail_not w (row_of w p).offers X j || branches_fail_not w (row_of w q).offers X j)) i)
      ∙ or_nothing w (list_all (is_unready X) (branches_of (row_of w p).offers) && list_all (is_unready X) (branches_of (row_of w q).offers))

  merged_fails : (e : Event) (t : List Event) (X : Event → Bool) → fails w r (e ∷ t) X ≡ (fails w p (e ∷ t) X || fails w q (e ∷ t) X)
  merged_fails e t X = is.merged.alt_fails (e ∷ t) X ∙ list_any-append (branch_fails w (e ∷ t) X) (branches_of (row_of w p).offers) (branches_of (row_of w q).offers)
      ∙ (λ i. (branches_fail w (row_of w p).offers (is_row w p is.first).increasing e t X ∙ sym (fails_cons w p e t X)) i || (branches_fail w (row_of w q).offers (is_row w q is.second).increasing e t X ∙ sym (fails_cons w q e t X)) i)

  merged_ends : (e : Event) (t : List Event) (z : ℕ) → ends w r (e ∷ t) z ≡ (ends w p (e ∷ t) z || ends w q (e ∷ t) z)
  merged_ends e t z = is.merged.alt_ends (e ∷ t) z ∙ list_any-append (branch_ends w (e ∷ t) z) (branches_of (row_of w p).offers) (branches_of (row_of w q).offers)
      ∙ (λ i. (branches_end w (row_of w p).offers (is_row w p is.first).increasing e t z ∙ sym (ends_cons w p e t z)) i || (branches_end w (row_of w q).offers (is_row w q is.second).increasing e t z ∙ sym (ends_cons w q e t z)) i)

  from_one : (e : Event) → (t : List Event) × HasTrace w r (e ∷ t) → T e ⊎ U e
  from_one e (t, k) = ⊎_elim
      (λ (h : fails w r (e ∷ t) (λ e. false) ≡ true). ⊎_elim
      (λ (l : fails w p (e ∷ t) (λ e. false) ≡ true). inl ((one.offers e).0 (offered_trace w p e t is.first (inl l))))
      (λ (l : fails w q (e ∷ t) (λ e. false) ≡ true). inr ((other.offers e).0 (offered_trace w q e t is.second (inl l))))
      (or_cases _ _ (sym (merged_fails e t (λ e. false)) ∙ h)))
      (λ (h : (x : ℕ) × (x < 2 ^ 64) × (ends w r (e ∷ t) x ≡ true)). ⊎_elim
      (λ (l : ends w p (e ∷ t) h.0 ≡ true). inl ((one.offers e).0 (offered_trace w p e t is.first (inr (h.0, h.1, l)))))
      (λ (l : ends w q (e ∷ t) h.0 ≡ true). inr ((other.offers e).0 (offered_trace w q e t is.second (inr (h.0, h.1, l)))))
      (or_cases _ _ (sym (merged_ends e t h.0) ∙ h.2)))
      k

  to_first : (e : Event) → (t : List Event) × HasTrace w p (e ∷ t) → is_offered (row_of w r).offers e ≡ true
  to_first e (t, k) = offered_trace w r e t is.merged.known (⊎_elim
      (λ (h : fails w p (e ∷ t) (λ e. false) ≡ true). inl (merged_fails e t (λ e. false) ∙ or_left _ _ h))
      (λ (h : (x : ℕ) × (x < 2 ^ 64) × (ends w p (e ∷ t) x ≡ true)). inr (h.0, h.1, merged_ends e t h.0 ∙ or_left _ _ h.2))
      k)

  to_second : (e : Event) → (t : List Event) × HasTrace w q (e ∷ t) → is_offered (row_of w r).offers e ≡ true
  to_second e (t, k) = offered_trace w r e t is.merged.known (⊎_elim
      (λ (h : fails w q (e ∷ t) (λ e. false) ≡ true). inl (merged_fails e t (λ e. false) ∙ or_right _ _ h))
      (λ (h : (x : ℕ) × (x < 2 ^ 64) × (ends w q (e ∷ t) x ≡ true)). inr (h.0, h.1, merged_ends e t h.0 ∙ or_right _ _ h.2))
      k)

  pub offering_merged : IsOffering w r (λ e. T e ⊎ U e) (λ e t X. F e t X ⊎ G e t X) (λ e t z. E e t z ⊎ H e t z)
  offering_merged = record {
    known = is.merged.known;
    offers = λ e. (
      λ h. from_one e (trace_offered w r e is.merged.known h),
      ⊎_elim (λ k. to_first e (trace_offered w p e is.first ((one.offers e).1 k))) (λ k. to_second e (trace_offered w q e is.second ((other.offers e).1 k))),
    );
    refuses = λ X. (
      λ h e. let parts = and_parts (list_all (is_unready X) (branches_of (row_of w p).offers)) (list_all (is_unready X) (branches_of (row_of w q).offers)) (sym (merged_now X) ∙ h) in
          ⊎_elim (λ k. (branches_wait (row_of w p).offers X).0 parts.0 e ((one.offers e).1 k)) (λ k. (branches_wait (row_of w q).offers X).0 parts.1 e ((other.offers e).1 k)),
      λ h. merged_now X ∙ and_from (list_all (is_unready X) (branches_of (row_of w p).offers)) (list_all (is_unready X) (branches_of (row_of w q).offers))
          ((branches_wait (row_of w p).offers X).1 (λ e k. h e (inl ((one.offers e).0 k)))) ((branches_wait (row_of w q).offers X).1 (λ e k. h e (inr ((other.offers e).0 k)))),
    );
    not_ended = λ z small. is.merged.alt_ends [] z ∙ list_any-append (branch_ends w [] z) (branches_of (row_of w p).offers) (branches_of (row_of w q).offers)
        ∙ (λ j. branches_end_not w (row_of w p).offers z j || branches_end_not w (row_of w q).offers z j);
    fail_on = λ e t X. trans_iff (iff_of_same _ _ (merged_fails e t X)) (trans_iff (or_iff _ _) (sum_iff (one.fail_on e t X) (other.fail_on e t X)));
    end_on = λ e t z small. trans_iff (iff_of_same _ _ (merged_ends e t z)) (trans_iff (or_iff _ _) (sum_iff (one.end_on e t z small) (other.end_on e t z small)));
  }

-- ---- with bits turned
pub xor_twice : (a b : ℕ) → bit_xor (bit_xor a b) b ≡ a
xor_twice a b = same_from_bits (bit_xor (bit_xor a b) b) a (λ i. bit_at_xor (bit_xor a b) b i ∙ ap (λ m. (m + bit_at b i) % 2) (bit_at_xor a b i) ∙ (omega arith))

module _ (w : World) (change : ℕ) (small : change < 2 ^ 64) (p r : NodeId) (T : Event → Type 0) (F : Event → List Event → (Event → Bool) → Type 0) (E : Event → List Event → ℕ → Type 0)
    (one : IsOffering w p T F E) (is : IsTurned w change p r) where
  turned_from : (e : Event) → (t : List Event) × HasTrace w r (e ∷ t) → is_offered (row_of w p).offers e ≡ true
  turned_from e (t, k) = offered_trace w p e t is.first (⊎_elim
      (λ (h : fails w r (e ∷ t) (λ e. false) ≡ true). inl (sym (is.turned.same_fail (e ∷ t) (λ e. false)) ∙ h))
      (λ (h : (x : ℕ) × (x < 2 ^ 64) × (ends w r (e ∷ t) x ≡ true)). inr (bit_xor h.0 change, xor_lt 64 h.0 change h.1 small, sym (is.turned.turned_end (e ∷ t) h.0 h.1) ∙ h.2))
      k)

  turned_to : (e : Event) → (t : List Event) × HasTrace w p (e ∷ t) → is_offered (row_of w r).offers e ≡ true
  turned_to e (t, k) = offered_trace w r e t is.turned.known (⊎_elim
      (λ (h : fails w p (e ∷ t) (λ e. false) ≡ true). inl (is.turned.same_fail (e ∷ t) (λ e. false) ∙ h))
      (λ (h : (x : ℕ) × (x < 2 ^ 64) × (ends w p (e ∷ t) x ≡ true)). inr (
        bit_xor h.0 change,
        xor_lt 64 h.0 change h.1 small,
        is.turned.turned_end (e ∷ t) (bit_xor h.0 change) (xor_lt 64 h.0 change h.1 small) ∙ ap (λ x. ends w p (e ∷ t) x) (xor_twice h.0 change) ∙ h.2,
      ))
      k)

  pub offering_turned : IsOffering w r T F (λ e t z. E e t (bit_xor z change))
  offering_turned = record {
    known = is.turned.known;
    offers = λ e. trans_iff (λ h. turned_from e (trace_offered w r e is.turned.known h), λ h. turned_to e (trace_offered w p e is.first h)) (one.offers e);
    refuses = λ X. trans_iff (iff_of_same _ _ (is.turned.same_fail [] X)) (one.refuses X);
    not_ended = λ z k. is.turned.turned_end [] z k ∙ one.not_ended (bit_xor z change) (xor_lt 64 z change k small);
    fail_on = λ e t X. trans_iff (iff_of_same _ _ (is.turned.same_fail (e ∷ t) X)) (one.fail_on e t X);
    end_on = λ e t z k. trans_iff (iff_of_same _ _ (is.turned.turned_end (e ∷ t) z k)) (one.end_on e t (bit_xor z change) (xor_lt 64 z change k small));
  }
