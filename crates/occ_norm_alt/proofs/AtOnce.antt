-- The inputs of all numbers from one state as one row.
use Rattle.std.proofs.Common.{◌≡◌, ◌<◌, ◌≤◌, ◌+◌, ◌^◌, ℕ, zero, suc, Bool, true, false, not, ◌||◌, ◌&&◌, List, [], ◌∷◌, length, Some, refl, sym, ap, ◌∙◌, inl, inr, ⊎_elim, arith, get_or, slice_get}
use Rattle.std.specs.Prelude.{◌↔◌, bit_xor}
use Rattle.std.specs.Int.Bits.{xor_zero_r}
use Rattle.std.specs.List.{All, list_all, list_any}
use Rattle.std.specs.Ordering.{eq_by_cmp}
use Rattle.std.proofs.lemmas.Bool.{and_from, and_parts, both_ways, cases_Bool, false≢true, or_cases, or_left, or_right}
use Rattle.std.proofs.lemmas.Nat.Bits.{bit_at_and, bit_at-zero, same_from_bits}
use Rattle.std.proofs.lemmas.Option.{same_Some, slice_get-get_or}
use Rattle.occ_syntax.specs.occ_base.declared.event.Event.{Event}
use Rattle.occ_syntax.specs.occ_base.declared.names.Name.{Name}
use Rattle.occ_norm_frame.specs.occ_accept.Order.{event_cmp}
use Rattle.occ_norm_frame.specs.occ_choice.Branches.{IsAlt, branch_ends, branch_fails, inputs_from, is_unready}
use Rattle.occ_norm_frame.specs.occ_follow.Sequence.{HasNodes}
use Rattle.occ_norm_frame.specs.occ_mdd.Maps.{value}
use Rattle.occ_norm_frame.specs.occ_mdd.declared.map.MapId.{MapId}
use Rattle.occ_norm_frame.specs.occ_node.Canonical.{HasTrace}
use Rattle.occ_norm_frame.specs.occ_node.Offers.{is_offered}
use Rattle.occ_norm_frame.specs.occ_node.World.{IsNode, ends, fails, row_of}
use Rattle.occ_norm_frame.specs.occ_node.declared.node.NodeId.{NodeId}
use Rattle.occ_norm_frame.specs.occ_node.declared.world.World.{World}
use Rattle.occ_norm_frame.proofs.After.{map_node}
use Rattle.occ_norm_frame.specs.Growth.{node_grow}
use Rattle.occ_norm_frame.specs.Maps.{Extends}
use Rattle.occ_norm_frame.proofs.from_weave.Growth.{iff_of_same, trans_iff}
use Rattle.occ_norm_alt.specs.Inputs.{AreInputsAt, AreNexts, LeadsInput, TakesInput, digits_at, input_event, placed}
use Rattle.occ_norm_alt.specs.Offering.{At}
use Rattle.occ_norm_alt.proofs.Making.{event_iff}
use Rattle.occ_norm_alt.proofs.Offering.{is_false, is_not, no_behaviour, offered_trace, or_nothing, trace_offered}
use Rattle.occ_norm_alt.proofs.Placed.{placed_small}

-- ---- lists of nodes
within_list : {A : Type 0} (xs : List A) (a : A) (i : ℕ) → slice_get xs i ≡ Some a → i < length xs
within_list [] a i e = absurd (cc)
within_list (x ∷ xs) a zero e = omega arith
within_list (x ∷ xs) a (suc i) e = let h = within_list xs a i e in omega (arith, h)

-- the nodes of the first numbers, so many
pub record NextsTo (w : World) (first bits : ℕ) (next : MapId) (state count : ℕ) (nodes : List NodeId) : Type 0 where
  pub all : length nodes ≡ count
  pub each : (u : ℕ) → u < count → slice_get nodes u ≡ value w.maps next (placed first bits u state)

pub nexts_known : (v : World) (first bits : ℕ) (next : MapId) (state : ℕ) (nodes : List NodeId) → first + bits ≤ 64 → state < 2 ^ 64 → HasNodes v next → AreNexts v first bits next state nodes → All (IsNode v) nodes
nexts_known v first bits next state nodes fits small has are = λ u d l. map_node v next has (placed first bits u state) (placed_small first bits u state fits small) (get_or nodes u d)
    (sym (are.each u (let c = are.count in omega (arith, l, c))) ∙ slice_get-get_or nodes u d l)

-- ---- inputs as branches: one of them is that event, and its node behaves so
abbrev any_input : Event → (NodeId → Bool) → Name → ℕ → List NodeId → Bool
any_input e P chan b [] = false
any_input e P chan b (n ∷ ns) = (eq_by_cmp event_cmp e (input_event chan b) && P n) || any_input e P chan (b + 1) ns

record Hits (e : Event) (P : NodeId → Bool) (chan : Name) (b : ℕ) (ns : List NodeId) : Type 0 where
  u : ℕ
  m : NodeId
  is : e ≡ input_event chan (b + u)
  there : slice_get ns u ≡ Some m
  holds : P m ≡ true

hit_from : (e : Event) (P : NodeId → Bool) (chan : Name) (b : ℕ) (ns : List NodeId) → any_input e P chan b ns ≡ true → Hits e P chan b ns
hit_from e P chan b [] h = absurd (false≢true h)
hit_from e P chan b (n ∷ ns) h = ⊎_elim
    (λ (l : (eq_by_cmp event_cmp e (input_event chan b) && P n) ≡ true).
    let parts = (event_iff e (input_event chan b) (P n)).0 l in
    let k : b ≡ b + 0 = omega arith in
    record { u = 0; m = n; is = parts.0 ∙ ap (input_event chan) k; there = refl; holds = parts.1 })
    (λ (l : any_input e P chan (b + 1) ns ≡ true).
    let hit = hit_from e P chan (b + 1) ns l in
    let k : b + 1 + hit.u ≡ b + suc hit.u = omega arith in
    record { u = suc hit.u; m = hit.m; is = hit.is ∙ ap (input_event chan) k; there = hit.there; holds = hit.holds })
    (or_cases _ _ h)

hit_back : (e : Event) (P : NodeId → Bool) (chan : Name) (b : ℕ) (ns : List NodeId) (u : ℕ) (m : NodeId) → e ≡ input_event chan (b + u) → slice_get ns u ≡ Some m → P m ≡ true → any_input e P chan b ns ≡ true
hit_back e P chan b [] u m is there holds = absurd (cc)
hit_back e P chan b (n ∷ ns) zero m is there holds =
    let k : b + 0 ≡ b = omega arith in
    or_left _ _ ((event_iff e (input_event chan b) (P n)).1 (is ∙ ap (input_event chan) k, ap P (same_Some n m there) ∙ holds))
hit_back e P chan b (n ∷ ns) (suc u) m is there holds =
    let k : b + suc u ≡ b + 1 + u = omega arith in
    or_right _ _ (hit_back e P chan (b + 1) ns u m (is ∙ ap (input_event chan) k) there holds)

fails_are : (w : World) (e : Event) (t : List Event) (X : Event → Bool) (chan : Name) (b : ℕ) (ns : List NodeId) → list_any (branch_fails w (e ∷ t) X) (inputs_from chan b ns) ≡ any_input e (λ m. fails w m t X) chan b ns
fails_are w e t X chan b [] = refl
fails_are w e t X chan b (n ∷ ns) = ap (λ r. (eq_by_cmp event_cmp e (input_event chan b) && fails w n t X) || r) (fails_are w e t X chan (b + 1) ns)

ends_are : (w : World) (e : Event) (t : List Event) (z : ℕ) (chan : Name) (b : ℕ) (ns : List NodeId) → list_any (branch_ends w (e ∷ t) z) (inputs_from chan b ns) ≡ any_input e (λ m. ends w m t z) chan b ns
ends_are w e t z chan b [] = refl
ends_are w e t z chan b (n ∷ ns) = ap (λ r. (eq_by_cmp event_cmp e (input_event chan b) && ends w n t z) || r) (ends_are w e t z chan (b + 1) ns)

none_fails : (w : World) (X : Event → Bool) (chan : Name) (b : ℕ) (ns : List NodeId) → list_any (branch_fails w [] X) (inputs_from chan b ns) ≡ false
none_fails w X chan b [] = refl
none_fails w X chan b (n ∷ ns) = none_fails w X chan (b + 1) ns

none_ends : (w : World) (z : ℕ) (chan : Name) (b : ℕ) (ns : List NodeId) → list_any (branch_ends w [] z) (inputs_from chan b ns) ≡ false
none_ends w z chan b [] = refl
none_ends w z chan b (n ∷ ns) = none_ends w z chan (b + 1) ns

unready_at : (chan : Name) (b : ℕ) (ns : List NodeId) (X : Event → Bool) → list_all (is_unready X) (inputs_from chan b ns) ≡ true → (u : ℕ) → u < length ns → X (input_event chan (b + u)) ≡ false
unready_at chan b [] X h u l = absurd (omega (arith, l))
unready_at chan b (n ∷ ns) X h zero l =
    let k : b + 0 ≡ b = omega arith in
    ap (λ j. X (input_event chan j)) k ∙ is_false (X (input_event chan b)) (and_parts (not (X (input_event chan b))) (list_all (is_unready X) (inputs_from chan (b + 1) ns)) h).0
unready_at chan b (n ∷ ns) X h (suc u) l =
    let k : b + suc u ≡ b + 1 + u = omega arith in
    ap (λ j. X (input_event chan j)) k ∙ unready_at chan (b + 1) ns X (and_parts (not (X (input_event chan b))) (list_all (is_unready X) (inputs_from chan (b + 1) ns)) h).1 u (omega (arith, l))

all_unready : (chan : Name) (b : ℕ) (ns : List NodeId) (X : Event → Bool) → ((u : ℕ) → u < length ns → X (input_event chan (b + u)) ≡ false) → list_all (is_unready X) (inputs_from chan b ns) ≡ true
all_unready chan b [] X h = refl
all_unready chan b (n ∷ ns) X h =
    let k : b ≡ b + 0 = omega arith in
    and_from (not (X (input_event chan b))) (list_all (is_unready X) (inputs_from chan (b + 1) ns)) (is_not (X (input_event chan b)) (ap (λ j. X (input_event chan j)) k ∙ h 0 (omega arith)))
    (all_unready chan (b + 1) ns X (λ u l. let j : b + 1 + u ≡ b + suc u = omega arith in ap (λ i. X (input_event chan i)) j ∙ h (suc u) (omega (arith, l))))

-- no bits are turned
unturned : (first v z : ℕ) → bit_xor z (digits_at first 0 v) ≡ z
unturned first v z = ap (bit_xor z) (same_from_bits (digits_at first 0 v) 0 (λ i. bit_at_and _ 0 i ∙ (let k = bit_at-zero i in omega (arith, k)))) ∙ xor_zero_r z

-- ---- the row
module _ (v w : World) (k : Extends v w) (chan : Name) (first bits : ℕ) (next : MapId) (state : ℕ) (nodes : List NodeId) (a : NodeId) (fits : first + bits ≤ 64) (small : state < 2 ^ 64)
    (has : HasNodes v next) (are : AreNexts v first bits next state nodes) (is : IsAlt v w (inputs_from chan 0 nodes) a) where
  hits_iff : (e : Event) (P : NodeId → Bool) (Q : ℕ → NodeId → Bool) → ((u : ℕ) (m : NodeId) → IsNode v m → Q u m ≡ P m) → Hits e P chan 0 nodes ↔ LeadsInput chan first bits 0 state e (λ u y. At w next y (Q u))
  hits_iff e P Q same = (
    λ h.
        let l : h.u < 2 ^ bits = (let n = within_list nodes h.m h.u h.there in let c = are.count in omega (arith, n, c)) in
        let led : value v.maps next (placed first bits h.u state) ≡ Some h.m = sym (are.each h.u l) ∙ h.there in
        record {
          u = h.u;
          below = l;
          is = h.is;
          behaved = record {
            m = h.m;
            leads = k.maps.same next (placed first bits h.u state) has.known ∙ led;
            behaved = same (0 + h.u) h.m (map_node v next has (placed first bits h.u state) (placed_small first bits h.u state fits small) h.m led) ∙ h.holds;
          };
        },
    λ l.
        let led : value v.maps next (placed first bits l.u state) ≡ Some l.behaved.m = sym (k.maps.same next (placed first bits l.u state) has.known) ∙ l.behaved.leads in
        record {
          u = l.u;
          m = l.behaved.m;
          is = l.is;
          there = are.each l.u l.below ∙ led;
          holds = sym (same (0 + l.u) l.behaved.m (map_node v next has (placed first bits l.u state) (placed_small first bits l.u state fits small) l.behaved.m led)) ∙ l.behaved.behaved;
        },
  )

  any_iff : (e : Event) (P : NodeId → Bool) → (any_input e P chan 0 nodes ≡ true) ↔ Hits e P chan 0 nodes
  any_iff e P = (hit_from e P chan 0 nodes, λ h. hit_back e P chan 0 nodes h.u h.m h.is h.there h.holds)

  fail_iff : (e : Event) (t : List Event) (X : Event → Bool) → (fails w a (e ∷ t) X ≡ true) ↔ LeadsInput chan first bits 0 state e (λ u y. At w next y (λ m. fails w m t X))
  fail_iff e t X = trans_iff (iff_of_same _ _ (is.alt_fails (e ∷ t) X ∙ fails_are v e t X chan 0 nodes))
      (trans_iff (any_iff e (λ m. fails v m t X)) (hits_iff e (λ m. fails v m t X) (λ u m. fails w m t X) (λ u m known. k.grows.same_fails m t X known)))

  end_iff : (e : Event) (t : List Event) (z : ℕ) → (ends w a (e ∷ t) z ≡ true) ↔ LeadsInput chan first bits 0 state e (λ u y. At w next y (λ m. ends w m t (bit_xor z (digits_at first 0 u))))
  end_iff e t z = trans_iff (iff_of_same _ _ (is.alt_ends (e ∷ t) z ∙ ends_are v e t z chan 0 nodes))
      (trans_iff (any_iff e (λ m. ends v m t z)) (hits_iff e (λ m. ends v m t z) (λ u m. ends w m t (bit_xor z (digits_at first 0 u)))
      (λ u m known. ap (ends w m t) (unturned first u z) ∙ k.grows.same_ends m t z known)))

  now : (X : Event → Bool) → fails w a [] X ≡ list_all (is_unready X) (inputs_from chan 0 nodes)
  now X = is.alt_fails [] X ∙ ap (λ r. list_all (is_unready X) (inputs_from chan 0 nodes) || r) (none_fails v X chan 0 nodes) ∙ or_nothing w (list_all (is_unready X) (inputs_from chan 0 nodes))

  takes_from : (e : Event) → (t : List Event) × HasTrace w a (e ∷ t) → TakesInput chan bits 0 e
  takes_from e (t, h) = ⊎_elim
      (λ (f : fails w a (e ∷ t) (λ e. false) ≡ true). let l = (fail_iff e t (λ e. false)).0 f in record { u = l.u; below = l.below; is = l.is })
      (λ (f : (x : ℕ) × (x < 2 ^ 64) × (ends w a (e ∷ t) x ≡ true)). let l = (end_iff e t f.0).0 f.2 in record { u = l.u; below = l.below; is = l.is })
      h

  module _ (e : Event) (takes : TakesInput chan bits 0 e) where
    there : (m : NodeId) × (value v.maps next (placed first bits takes.u state) ≡ Some m) × IsNode v m
    there = has.nodes (placed first bits takes.u state) (placed_small first bits takes.u state fits small)

    leads : (Q : ℕ → NodeId → Bool) → Q (0 + takes.u) there.0 ≡ true → LeadsInput chan first bits 0 state e (λ u y. At w next y (Q u))
    leads Q h = record { u = takes.u; below = takes.below; is = takes.is; behaved = record { m = there.0; leads = k.maps.same next (placed first bits takes.u state) has.known ∙ there.1; behaved = h } }

    offers_it : is_offered (row_of w a).offers e ≡ true
    offers_it = ⊎_elim
        (λ (h : is_offered (row_of w a).offers e ≡ true). h)
        (λ (h : is_offered (row_of w a).offers e ≡ false). absurd (no_behaviour w there.0 (node_grow v w k.grows there.0 there.2)
        (⊎_elim (λ (f : fails w there.0 [] (λ e. false) ≡ true). absurd (both_ways _ h (offered_trace w a e [] is.known (inl ((fail_iff e [] (λ e. false)).1 (leads (λ u m. fails w m [] (λ e. false)) f))))))
        (λ (f : fails w there.0 [] (λ e. false) ≡ false). f) (cases_Bool (fails w there.0 [] (λ e. false))))
        (λ x l. ⊎_elim
        (λ (f : ends w there.0 [] x ≡ true). absurd (both_ways _ h (offered_trace w a e [] is.known (inr (x, l, (end_iff e [] x).1 (leads (λ u m. ends w m [] (bit_xor x (digits_at first 0 u))) (ap (ends w there.0 []) (unturned first (0 + takes.u) x) ∙ f)))))))
        (λ (f : ends w there.0 [] x ≡ false). f) (cases_Bool (ends w there.0 [] x)))))
        (cases_Bool (is_offered (row_of w a).offers e))

  pub row_inputs : AreInputsAt w chan first bits 0 0 next state a
  row_inputs = record {
    known = is.known;
    offers = λ e. (λ h. takes_from e (trace_offered w a e is.known h), λ h. offers_it e h);
    refuses = λ X. (
      λ h e takes. ap X takes.is ∙ unready_at chan 0 nodes X (sym (now X) ∙ h) takes.u (let l = takes.below in let c = are.count in omega (arith, l, c)),
      λ h. now X ∙ all_unready chan 0 nodes X (λ u l. h (input_event chan (0 + u)) (record { u = u; below = (let c = are.count in omega (arith, l, c)); is = refl })),
    );
    not_ended = λ z l. is.alt_ends [] z ∙ none_ends v z chan 0 nodes;
    fail_on = fail_iff;
    end_on = λ e t z l. end_iff e t z;
  }
