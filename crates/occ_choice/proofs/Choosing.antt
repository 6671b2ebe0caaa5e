use Rattle.std.proofs.Common.{◌≡◌, ◌<◌, ◌+◌, ◌||◌, ◌&&◌, ◌++◌, ℕ, zero, suc, Bool, true, false, not, cond, List, [], ◌∷◌, Option, Some, None, length, get_or, take, is_some, refl, sym, ap, ◌∙◌, subst, ⊎_elim, arith}
use Rattle.std.proofs.lemmas.Bool.{or_parts, or_from, cases_Bool, both_ways, true≢false, false≢true}
use Rattle.std.proofs.lemmas.List.{take_more, length-take-le}
use Rattle.std.proofs.lemmas.List.Folds.{list_any_at, list_any_more, Any-from_list_any}
use Rattle.std.proofs.lemmas.List.Sums.{AllPass-from_list_all, list_all-from_AllPass}
use Rattle.std.specs.List.{list_all, list_any, All}
use Rattle.std.specs.Ordering.{eq_by_cmp}
use Rattle.occ_node.specs.occ_base.declared.event.Dir.TheVariants.{Input}
use Rattle.occ_node.specs.occ_base.declared.event.Event.{Event}
use Rattle.occ_node.specs.occ_base.declared.names.Name.{Name}
use Rattle.occ_node.specs.occ_dd.Store.{IsSet}
use Rattle.occ_node.specs.occ_dd.declared.set.SetId.{SetId}
use Rattle.occ_node.specs.occ_accept.Order.{event_cmp, strict}
use Rattle.occ_node.specs.occ_accept.Accept.{in_set, in_some, misses, refuses}
use Rattle.occ_node.proofs.from_accept.Strict.{any_same, same_tests, or_skip, tied, tied_same, all_each, all_at}
use Rattle.occ_node.proofs.from_accept.Events.{cmp_total, event_exact}
use Rattle.occ_node.specs.Offers.{offer_cmp, next_in, are_below, are_offered}
use Rattle.occ_node.specs.World.{IsNode, nodes_of, fails, ends, row_fails, row_ends, Leads, IsMade}
use Rattle.occ_node.specs.declared.node.NodeId.{NodeId}
use Rattle.occ_node.specs.declared.world.World.{World}
use Rattle.occ_node.proofs.Behaviours.{fails_made, ends_made, within_offers}
use Rattle.occ_choice.specs.Union.{IsAdded}
use Rattle.occ_choice.specs.Joined.{IsSound, maybe_fails, maybe_ends, Reaches, IsEither, AreReached}
use Rattle.occ_choice.specs.Branches.{node_of, is_unready, waits, branch_fails, branch_ends, is_at, AreUnited, IsAlt, event_fails, event_ends, offers_fails, offers_ends, IsBeside, stays, IsWaiting, AreBranches, inputs_from}
use Rattle.occ_choice.specs.declared.branch.Branch.{Branch}
use Rattle.occ_choice.specs.declared.branch.Branch.TheVariants.{Skip, Event as Comm}
use Rattle.occ_choice.proofs.Reaching.{maybe_fails-leads, maybe_ends-leads, reaches_same, offers_fail, offers_end, next_known, reached_push, reached-leads}

or_four : (a b c d : Bool) → ((a || b) || (c || d)) ≡ ((a || c) || (b || d))
or_four true b c d = refl
or_four false true true d = refl
or_four false true false d = refl
or_four false false c d = refl

-- ---- tests of lists
module _ {A : Type 0} where
  pub any_or : (p q : A → Bool) (xs : List A) → list_any (λ x. p x || q x) xs ≡ (list_any p xs || list_any q xs)
  any_or p q [] = refl
  any_or p q (x ∷ xs) = ap (λ b. (p x || q x) || b) (any_or p q xs) ∙ or_four (p x) (q x) (list_any p xs) (list_any q xs)

  pub any_and_none : (p q : A → Bool) (xs : List A) → list_any p xs ≡ false → list_any (λ x. p x && q x) xs ≡ false
  any_and_none p q [] h = refl
  any_and_none p q (x ∷ xs) h = let k = or_parts (p x) (list_any p xs) h in or_from (p x && q x) (list_any (λ x. p x && q x) xs) (ap (λ b. b && q x) k.0) (any_and_none p q xs k.1)

  pub any_never : (xs : List A) → list_any (λ x. false) xs ≡ false
  any_never [] = refl
  any_never (x ∷ xs) = any_never xs

  -- tests that agree on the items of a list
  pub any_among : (p q : A → Bool) (xs : List A) → All (λ x. p x ≡ q x) xs → list_any p xs ≡ list_any q xs
  any_among p q [] h = refl
  any_among p q (x ∷ xs) h = λ i. h zero x (omega arith) i || any_among p q xs (λ k d l. h (suc k) d (omega arith)) i

or_nothing : (b : Bool) → (b || false) ≡ b
or_nothing true = refl
or_nothing false = refl

-- ---- branches in later worlds

module _ (u v : World) (k : Leads u v) (branches : List Branch) (known : AreBranches u branches) where
  at_fails : (at : Option Event) (t : List Event) (X : Event → Bool) → list_any (λ b. is_at at b && fails v (node_of b) t X) branches ≡ list_any (λ b. is_at at b && fails u (node_of b) t X) branches
  at_fails at t X = any_among (λ b. is_at at b && fails v (node_of b) t X) (λ b. is_at at b && fails u (node_of b) t X) branches
      (λ i d h. ap (λ c. is_at at (get_or branches i d) && c) (k.same_fails (node_of (get_or branches i d)) t X (known i d h)))

  at_ends : (at : Option Event) (t : List Event) (x : ℕ) → list_any (λ b. is_at at b && ends v (node_of b) t x) branches ≡ list_any (λ b. is_at at b && ends u (node_of b) t x) branches
  at_ends at t x = any_among (λ b. is_at at b && ends v (node_of b) t x) (λ b. is_at at b && ends u (node_of b) t x) branches
      (λ i d h. ap (λ c. is_at at (get_or branches i d) && c) (k.same_ends (node_of (get_or branches i d)) t x (known i d h)))

  pub united_earlier : (w : World) (at : Option Event) (r : Option NodeId) → AreUnited v w branches at r → AreUnited u w branches at r
  united_earlier w at r is = record { there = is.there; all = reaches_same w r _ _ _ _ (at_fails at) (at_ends at) is.all }

-- ---- the union of branches, one by one

chosen_some : (c : Bool) (n : NodeId) → is_some (cond c (Some n) None) ≡ c
chosen_some true n = refl
chosen_some false n = refl

chosen_fails : (w : World) (c : Bool) (n : NodeId) (t : List Event) (X : Event → Bool) → maybe_fails w (cond c (Some n) None) t X ≡ (c && fails w n t X)
chosen_fails w true n t X = refl
chosen_fails w false n t X = refl

chosen_ends : (w : World) (c : Bool) (n : NodeId) (t : List Event) (x : ℕ) → maybe_ends w (cond c (Some n) None) t x ≡ (c && ends w n t x)
chosen_ends w true n t x = refl
chosen_ends w false n t x = refl

pub united_more : (u v w : World) (k : Leads u v) (branches : List Branch) (i : ℕ) (b d : Branch) (at : Option Event) (found next r : Option NodeId) → i < length branches → b ≡ get_or branches i d → AreBranches u branches
    → next ≡ cond (is_at at b) (Some (node_of b)) None → AreUnited u v (take i branches) at found → IsEither v w found next r → AreUnited u w (take (i + 1) branches) at r
united_more u v w k branches i b d at found next r h here all chosen is both = record {
  there = both.there ∙ (λ j. is.there j || (ap is_some chosen ∙ chosen_some (is_at at b) (node_of b)) j) ∙ ap (λ c. list_any (is_at at) (take i branches) || is_at at c) here ∙ sym (list_any_more (is_at at) branches i d h);
  all = reaches_same w r _ _ _ _
      (λ t X. (λ j. is.all.failures t X j || (ap (λ o. maybe_fails v o t X) chosen ∙ chosen_fails v (is_at at b) (node_of b) t X ∙ ap (λ c. is_at at b && c) (k.same_fails (node_of b) t X known)) j)
      ∙ ap (λ c. list_any (λ b. is_at at b && fails u (node_of b) t X) (take i branches) || (is_at at c && fails u (node_of c) t X)) here ∙ sym (list_any_more (λ b. is_at at b && fails u (node_of b) t X) branches i d h))
      (λ t x. (λ j. is.all.endings t x j || (ap (λ o. maybe_ends v o t x) chosen ∙ chosen_ends v (is_at at b) (node_of b) t x ∙ ap (λ c. is_at at b && c) (k.same_ends (node_of b) t x known)) j)
      ∙ ap (λ c. list_any (λ b. is_at at b && ends u (node_of b) t x) (take i branches) || (is_at at c && ends u (node_of c) t x)) here ∙ sym (list_any_more (λ b. is_at at b && ends u (node_of b) t x) branches i d h))
      both.both;
}
  where
    known : IsNode u (node_of b)
    known = subst (λ (c : Branch). IsNode u (node_of c)) (sym here) (all i d h)

-- ---- the offers of the branches
pub offered_next : (u v w : World) (k : Leads u v) (branches : List Branch) → AreBranches u branches → (e : Event) (n : NodeId) (r : Option NodeId) → AreUnited v w branches (Some e) r → r ≡ Some n
    → Reaches w (Some n) (λ t X. list_any (event_fails u (e ∷ t) X) branches) (λ t x. list_any (event_ends u (e ∷ t) x) branches)
offered_next u v w k branches known e n r is some = subst (λ o. Reaches w o (λ t X. list_any (event_fails u (e ∷ t) X) branches) (λ t x. list_any (event_ends u (e ∷ t) x) branches)) some (united_earlier u v k branches known w (Some e) r is).all

pub offered_more : (u v w : World) (k : Leads u v) (l : Leads v w) (branches : List Branch) → AreBranches u branches → (e d : Event) (n : NodeId) (r : Option NodeId) (offers new : List (Event × NodeId)) (events : List Event) (i : ℕ)
    → AreUnited v w branches (Some e) r → r ≡ Some n → i < length events → e ≡ get_or events i d
    → AreReached v offers (take i events) (λ t X. list_any (event_fails u t X) branches) (λ t x. list_any (event_ends u t x) branches) → new ≡ offers ++ (e, n) ∷ []
    → AreReached w new (take (i + 1) events) (λ t X. list_any (event_fails u t X) branches) (λ t x. list_any (event_ends u t x) branches)
offered_more u v w k l branches known e d n r offers new events i united some h here reached is =
    subst (λ os. AreReached w os (take (i + 1) events) (λ t X. list_any (event_fails u t X) branches) (λ t x. list_any (event_ends u t x) branches)) (sym is)
    (reached_push w offers events i e d n _ _ h here (reached-leads v w l offers (take i events) _ _ reached) (offered_next u v w k branches known e n r united some))

-- ---- the ALT
module _ (u : World) (branches : List Branch) where
  branch_parts : (t : List Event) (X : Event → Bool) (b : Branch) → (event_fails u t X b || (is_at None b && fails u (node_of b) t X)) ≡ branch_fails u t X b
  branch_parts [] X (Skip n) = refl
  branch_parts (e ∷ t) X (Skip n) = refl
  branch_parts [] X (Comm f n) = refl
  branch_parts (e ∷ t) X (Comm f n) = or_nothing (eq_by_cmp event_cmp e f && fails u n t X)

  branch_end_parts : (t : List Event) (x : ℕ) (b : Branch) → (event_ends u t x b || (is_at None b && ends u (node_of b) t x)) ≡ branch_ends u t x b
  branch_end_parts [] x (Skip n) = refl
  branch_end_parts (e ∷ t) x (Skip n) = refl
  branch_end_parts [] x (Comm f n) = refl
  branch_end_parts (e ∷ t) x (Comm f n) = or_nothing (eq_by_cmp event_cmp e f && ends u n t x)

  all_parts : (t : List Event) (X : Event → Bool) → list_any (branch_fails u t X) branches ≡ (list_any (event_fails u t X) branches || list_any (λ b. is_at None b && fails u (node_of b) t X) branches)
  all_parts t X = sym (any_same (λ b. event_fails u t X b || (is_at None b && fails u (node_of b) t X)) (branch_fails u t X) (branch_parts t X) branches) ∙ any_or (event_fails u t X) (λ b. is_at None b && fails u (node_of b) t X) branches

  all_end_parts : (t : List Event) (x : ℕ) → list_any (branch_ends u t x) branches ≡ (list_any (event_ends u t x) branches || list_any (λ b. is_at None b && ends u (node_of b) t x) branches)
  all_end_parts t x = sym (any_same (λ b. event_ends u t x b || (is_at None b && ends u (node_of b) t x)) (branch_ends u t x) (branch_end_parts t x) branches) ∙ any_or (event_ends u t x) (λ b. is_at None b && ends u (node_of b) t x) branches

  module _ (v : World) (offers : List (Event × NodeId)) (events : List Event) (reached : AreReached v offers events (λ t X. list_any (event_fails u t X) branches) (λ t x. list_any (event_ends u t x) branches))
      (all : (e : Event) → in_set events e ≡ list_any (is_at (Some e)) branches) where
    offers_are : (t : List Event) (X : Event → Bool) → offers_fails v offers t X ≡ list_any (event_fails u t X) branches
    offers_are [] X = sym (any_never branches)
    offers_are (e ∷ t) X = offers_fail v offers events _ _ reached e t X (λ h. any_and_none (is_at (Some e)) (λ b. fails u (node_of b) t X) branches (sym (all e) ∙ h))

    offer_ends_are : (t : List Event) (x : ℕ) → offers_ends v offers t x ≡ list_any (event_ends u t x) branches
    offer_ends_are [] x = sym (any_never branches)
    offer_ends_are (e ∷ t) x = offers_end v offers events _ _ reached e t x (λ h. any_and_none (is_at (Some e)) (λ b. ends u (node_of b) t x) branches (sym (all e) ∙ h))

    -- a ready SKIP isn't stable
    unready_skip : (X : Event → Bool) (b : Branch) → is_at None b ≡ true → is_unready X b ≡ false
    unready_skip X (Skip n) h = refl
    unready_skip X (Comm f n) h = absurd (false≢true h)

    skip_waits : (t : List Event) (X : Event → Bool) → list_any (is_at None) branches ≡ true → waits branches t X ≡ false
    skip_waits [] X h = ⊎_elim
        (λ (k : list_all (is_unready X) branches ≡ true). let w = Any-from_list_any (is_at None) branches h in
        absurd (both_ways (is_unready X w.1) (unready_skip X w.1 w.4) (ap (is_unready X) (sym w.3) ∙ AllPass-from_list_all (is_unready X) branches k w.0 w.1 w.2)))
        (λ (k : list_all (is_unready X) branches ≡ false). k)
        (cases_Bool (list_all (is_unready X) branches))
    skip_waits (e ∷ t) X h = refl

    pub alt_beside : (w : World) (node r : NodeId) → AreUnited u v branches None (Some node) → IsBeside v w offers node r → IsAlt u w branches r
    alt_beside w node r is both = record {
      known = both.known;
      alt_fails = λ t X. both.both_fail t X ∙ (λ i. offers_are t X i || is.all.failures t X i) ∙ sym (all_parts t X) ∙ sym (or_skip (waits branches t X) (list_any (branch_fails u t X) branches) (skip_waits t X (sym is.there)));
      alt_ends = λ t x. both.both_end t x ∙ (λ i. offer_ends_are t x i || is.all.endings t x i) ∙ sym (all_end_parts t x);
    }

    -- without a ready SKIP the ALT waits for the events of its guards
    unready_at : (X : Event → Bool) (b : Branch) → is_at None b ≡ false → ((f : Event) → is_at (Some f) b ≡ true → not (X f) ≡ true) → is_unready X b ≡ true
    unready_at X (Skip n) h k = absurd (true≢false h)
    unready_at X (Comm f n) h k = k f (tied cmp_total f)

    unready_event : (X : Event → Bool) (b : Branch) (e : Event) → is_at (Some e) b ≡ true → is_unready X b ≡ true → not (X e) ≡ true
    unready_event X (Skip n) e h k = absurd (false≢true h)
    unready_event X (Comm f n) e h k = ap (λ g. not (X g)) (tied_same cmp_total event_exact e f h) ∙ k

    module _ (none : list_any (is_at None) branches ≡ false) where
      not_skip : (i : ℕ) (d : Branch) → i < length branches → is_at None (get_or branches i d) ≡ false
      not_skip i d h = ⊎_elim
          (λ (k : is_at None (get_or branches i d) ≡ true). absurd (both_ways (list_any (is_at None) branches) none (list_any_at (is_at None) branches i d h k)))
          (λ (k : is_at None (get_or branches i d) ≡ false). k)
          (cases_Bool (is_at None (get_or branches i d)))

      waits_are : (t : List Event) (X : Event → Bool) → stays events t X ≡ waits branches t X
      waits_are [] X = same_tests (misses X events) (list_all (is_unready X) branches)
          (λ k. list_all-from_AllPass (is_unready X) branches (λ i d h. unready_at X (get_or branches i d) (not_skip i d h)
          (λ f m. all_at cmp_total event_exact (λ e. not (X e)) events f k (all f ∙ list_any_at (is_at (Some f)) branches i d h m))))
          (λ k. all_each cmp_total event_exact (λ e. not (X e)) events (λ e m. let w = Any-from_list_any (is_at (Some e)) branches (sym (all e) ∙ m) in
          unready_event X w.1 e w.4 (ap (is_unready X) (sym w.3) ∙ AllPass-from_list_all (is_unready X) branches k w.0 w.1 w.2)))
      waits_are (e ∷ t) X = refl

      pub alt_waiting : (w : World) (r : NodeId) → IsWaiting v w events offers r → IsAlt u w branches r
      alt_waiting w r is = record {
        known = is.known;
        alt_fails = λ t X. is.wait_fail t X ∙ (λ i. waits_are t X i || (offers_are t X ∙ sym (or_nothing (list_any (event_fails u t X) branches)) ∙ ap (λ c. list_any (event_fails u t X) branches || c) (sym (any_and_none (is_at None) (λ b. fails u (node_of b) t X) branches none)) ∙ sym (all_parts t X)) i);
        alt_ends = λ t x. is.wait_end t x ∙ offer_ends_are t x ∙ sym (or_nothing (list_any (event_ends u t x) branches)) ∙ ap (λ c. list_any (event_ends u t x) branches || c) (sym (any_and_none (is_at None) (λ b. ends u (node_of b) t x) branches none)) ∙ sym (all_end_parts t x);
      }

-- ---- rows of offers
nothing_accepted : (sets : List (List Event)) → ((e : Event) → in_some sets e ≡ true → in_some [] e ≡ true) → (offers : List (Event × NodeId)) → are_offered offers sets ≡ true
nothing_accepted sets h offers = within_offers offers sets (λ e k. absurd (false≢true (h e k)))

pub beside_sound : (w : World) (nowhere : SetId) (accepts : List (List Event)) (offers : List (Event × NodeId)) → IsSet w.store nowhere (λ x. false) → strict offer_cmp offers ≡ true → are_below (nodes_of w) offers ≡ true
    → ((e : Event) → in_some accepts e ≡ true → in_some [] e ≡ true) → IsSound w (record { ends = nowhere; accepts = accepts; offers = offers })
beside_sound w nowhere accepts offers set increasing there events = record { known = set.known; increasing = increasing; there = there; offered = nothing_accepted accepts events offers }

pub beside_added : (v w : World) (nowhere : SetId) (accepts : List (List Event)) (offers : List (Event × NodeId)) (node r : NodeId) → IsSet v.store nowhere (λ x. false) → ((X : Event → Bool) → refuses accepts X ≡ refuses [] X)
    → IsAdded v w (record { ends = nowhere; accepts = accepts; offers = offers }) node r → IsBeside v w offers node r
beside_added v w nowhere accepts offers node r set nothing is = record {
  known = is.known;
  both_fail = λ t X. is.both_fail t X ∙ ap (λ c. c || fails v node t X) (fails_are t X);
  both_end = λ t x. is.both_end t x ∙ ap (λ c. c || ends v node t x) (ends_are t x);
}
  where
    fails_are : (t : List Event) (X : Event → Bool) → row_fails v (record { ends = nowhere; accepts = accepts; offers = offers }) t X ≡ offers_fails v offers t X
    fails_are [] X = nothing X
    fails_are (e ∷ t) X = refl

    ends_are : (t : List Event) (x : ℕ) → row_ends v (record { ends = nowhere; accepts = accepts; offers = offers }) t x ≡ offers_ends v offers t x
    ends_are [] x = set.members x
    ends_are (e ∷ t) x = refl

pub waiting_made : (v w : World) (k : Leads v w) (nowhere : SetId) (accepts : List (List Event)) (offers : List (Event × NodeId)) (set : List Event) (r : NodeId) → IsSet v.store nowhere (λ x. false) → are_below (nodes_of v) offers ≡ true
    → ((X : Event → Bool) → refuses accepts X ≡ refuses (set ∷ []) X) → IsMade w r (record { ends = nowhere; accepts = accepts; offers = offers }) → IsWaiting v w set offers r
waiting_made v w k nowhere accepts offers set r empty there same is = record { known = is.known; wait_fail = wait_fail; wait_end = wait_end }
  where
    wait_fail : (t : List Event) (X : Event → Bool) → fails w r t X ≡ (stays set t X || offers_fails v offers t X)
    wait_fail [] X = fails_made w r _ is [] X ∙ same X
    wait_fail (e ∷ t) X = fails_made w r _ is (e ∷ t) X ∙ maybe_fails-leads v w k (next_in offers e) (next_known v offers e there) t X

    wait_end : (t : List Event) (x : ℕ) → ends w r t x ≡ offers_ends v offers t x
    wait_end [] x = ends_made w r _ is [] x ∙ k.stored.same nowhere x empty.known ∙ empty.members x
    wait_end (e ∷ t) x = ends_made w r _ is (e ∷ t) x ∙ maybe_ends-leads v w k (next_in offers e) (next_known v offers e there) t x

-- ---- the inputs of a channel
pub inputs_more : (chan : Name) (v : ℕ) (nexts : List NodeId) (n : NodeId) → inputs_from chan v (nexts ++ n ∷ []) ≡ inputs_from chan v nexts ++ inputs_from chan (v + length nexts) (n ∷ [])
inputs_more chan v [] n = let e : v ≡ v + 0 = omega arith in ap (λ m. inputs_from chan m (n ∷ [])) e
inputs_more chan v (m ∷ nexts) n =
    let e : v + 1 + length nexts ≡ v + suc (length nexts) = omega arith in
    let rest : inputs_from chan (v + 1) (nexts ++ n ∷ []) ≡ inputs_from chan (v + 1) nexts ++ inputs_from chan (v + 1 + length nexts) (n ∷ []) = inputs_more chan (v + 1) nexts n in
    λ i. head ∷ (rest ∙ ap (λ m. inputs_from chan (v + 1) nexts ++ inputs_from chan m (n ∷ [])) e) i
  where
    head : Branch
    head = Comm (record { chan = chan; dir = Input; value = v }) m

pub inputs_step : (chan : Name) (nexts : List NodeId) (i : ℕ) (n d : NodeId) (old new : List Branch) → i < length nexts → n ≡ get_or nexts i d → old ≡ inputs_from chan 0 (take i nexts)
    → new ≡ old ++ inputs_from chan i (n ∷ []) → new ≡ inputs_from chan 0 (take (i + 1) nexts)
inputs_step chan nexts i n d old new h here was is =
    let e : i ≡ 0 + length (take i nexts) = omega (arith, length-take-le i nexts (omega arith)) in
    is ∙ (λ j. was j ++ inputs_from chan (e j) (here j ∷ [])) ∙ sym (ap (inputs_from chan 0) (take_more nexts i d h) ∙ inputs_more chan 0 (take i nexts) (get_or nexts i d))

pub inputs_known : (w : World) (chan : Name) (v : ℕ) (nexts : List NodeId) → All (IsNode w) nexts → AreBranches w (inputs_from chan v nexts)
inputs_known w chan v [] all i d h = absurd (omega arith)
inputs_known w chan v (n ∷ nexts) all zero d h = all zero n (omega arith)
inputs_known w chan v (n ∷ nexts) all (suc i) d h = inputs_known w chan (v + 1) nexts (λ k e l. all (suc k) e (omega arith)) i d (omega arith)
