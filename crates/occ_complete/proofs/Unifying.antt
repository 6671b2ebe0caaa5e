-- A settled ALT leads to a node.
use Rattle.std.proofs.Common.{◌≡◌, ◌∙◌, ℕ, nat_lt, Bool, true, false, List, [], ◌∷◌, ◌++◌, map, None, Some, refl, sym, ap, subst, inl, inr}
use Rattle.std.proofs.lemmas.List.{append-nil, append_assoc}
use Rattle.std.specs.List.{AllByRecursion}
use Rattle.occ_engine.specs.occ_base.declared.names.Name.{Name}
use Rattle.occ_complete_states.specs.occ_behaviour.States.{is_state}
use Rattle.occ_complete_states.specs.occ_derive_moves.Settled.{IsEventGuard}
use Rattle.occ_complete_states.specs.occ_derive_moves.Unified.{ending_cleared}
use Rattle.occ_complete_states.specs.Configured.{Follows, IsEventBranch, IsSettledBranch}
use Rattle.occ_complete_states.specs.Headers.{IsHeader}
use Rattle.occ_complete_states.specs.Nodes.{GoesOnAsAny, IsUnifiedNode}
use Rattle.occ_complete_states.specs.States.{scope_of}
use Rattle.occ_complete_states.specs.Ways.{IsUnified}
use Rattle.occ_complete.proofs.Blocks.{all_blocks, block, block_in, blocks, branch_at, guards_wait, in_block, in_keys, joined, key_in, keys, one_place}
use Rattle.occ_complete.proofs.Parting.{one_acceptance, one_end, stage_of}
use Rattle.occ_complete.proofs.Sets.{Same, Within, all_of, flat, flat_mapped, flat_ones, flat_same, same_both, same_turned}
use Rattle.occ_complete.proofs.Sharing.{AreLeast, each_share, least_of, share, shares}
use Rattle.occ_complete.proofs.Sorting.{numbers_total, same_sorted, sorted, sorted_chain, texts_total}
use Rattle.occ_complete.proofs.Turning.{Turns, acceptance_turns, each_turns, events_join, same_turns, turns_on}
use Rattle.occ_complete_states.specs.occ_nform_table.Judging.{text_less}
use Rattle.occ_complete_states.specs.occ_nform_table.Lines.{HaveWidths, state_place}
use Rattle.occ_complete_states.proofs.from_nform_table.States.{same_state}
use Rattle.occ_complete_states.specs.occ_nform_table.Lists.{Chain, In}
use Rattle.occ_engine.specs.occ_syntax.Scopes.{environment}
use Rattle.occ_engine.specs.occ_syntax.Tree.{Tree, Waiting, alt, ready}
use Rattle.occ_engine.specs.occ_syntax.Usage.{Keeps}
use Rattle.occ_complete_states.specs.occ_target.Rows.{guarded}
use Rattle.occ_complete_states.proofs.from_target_laws.Lists.{in_map, map_in, none_in}
use Rattle.occ_complete_states.specs.occ_target_laws.Shapes.{Header, Node, accepting, branch_less, end_less, place, set_less}

-- ---- lists that are mapped

module _ {A B : Type 0} (less : A → A → Bool) (more : B → B → Bool) (f : A → B) where
  chain_behind : (x : A) (xs : List A) → ((y z : A) → In y (x ∷ xs) → In z (x ∷ xs) → less y z ≡ true → more (f y) (f z) ≡ true)
      → Chain less (Some x) xs → Chain more (Some (f x)) (map f xs)
  chain_behind x [] ok c = tt
  chain_behind x (y ∷ ys) ok c = (ok x y (inl refl) (inr (inl refl)) c.0, chain_behind y ys (λ u v i j. ok u v (inr i) (inr j)) c.1)

  chain_mapped : (xs : List A) → ((y z : A) → In y xs → In z xs → less y z ≡ true → more (f y) (f z) ≡ true) → Chain less None xs → Chain more None (map f xs)
  chain_mapped [] ok c = tt
  chain_mapped (x ∷ xs) ok c = (refl, chain_behind x xs ok c.1)

empty_of : {A B : Type 0} (xs : List A) (ys : List B) → ((x : A) → In x xs → (y : B) × In y ys) → ys ≡ [] → xs ≡ []
empty_of xs ys f e = none_in xs (λ x i. let r = f x i in subst (λ l. In r.0 l) e r.1)

-- ---- the ends in order

ends_total : (h : Header) (s u : List (Name × ℕ)) → is_state h.params s ≡ true → is_state h.params u ≡ true → end_less h s u ≡ false → end_less h u s ≡ false → s ≡ u
ends_total h s u p q e f = same_state h.params s u p q (numbers_total (state_place h.params s) (state_place h.params u) e f)

module _ (h : Header) (is : IsHeader h) (wide : HaveWidths h.params) (limit : ℕ) (E : List (Waiting × Tree)) (good : (b : Waiting × Tree) → In b E → IsEventBranch h limit b) where
  guards : (b : Waiting × Tree) → In b E → IsEventGuard h b.0
  guards b i = (good b i).guard

  on : {xs ys zs : List (Waiting × Tree)} → Turns (scope_of h) xs ys → Turns (scope_of h) ys zs → Turns (scope_of h) xs zs
  on a b = turns_on (scope_of h) is.kept a b

  by_same : {xs ys : List (Waiting × Tree)} → Same xs ys → Turns (scope_of h) xs ys
  by_same s = same_turns (scope_of h) is.kept s

  abbrev at : ℕ → Waiting × Tree
  at k = branch_at h E k

  -- ---- the branches of one place

  record AreOfOne (l : List (Waiting × Tree)) : Type 0 where
    first : Waiting × Tree
    there : In first l
    events : (b : Waiting × Tree) → In b l → IsEventBranch h limit b
    one : (b c : Waiting × Tree) → In b l → In c l → b.0 ≡ c.0

  of_one : (k : ℕ) → In k (keys h E) → AreOfOne (block h E k)
  of_one k i =
      let r = in_keys h E k i in
      record {
        first = r.0;
        there = block_in h E k r.0 r.1 (sym r.2);
        events = λ b j. good b (in_block h E k b j).0;
        one = λ b c j u. let p = in_block h E k b j in let q = in_block h E k c u in one_place h is wide b c (guards b p.0) (guards c q.0) (p.1 ∙ sym q.1);
      }

  one_joins : (l R : List (Waiting × Tree)) → AreOfOne l → Turns (scope_of h) (l ++ R) (joined l ∷ R)
  one_joins [] R a = absurd a.there
  one_joins (b ∷ bs) R a = events_join (scope_of h) is.kept b bs R (guards_wait h b.0 (a.events b (inl refl)).guard) (all_of (λ (c : Waiting × Tree). c.0 ≡ b.0) bs (λ c i. a.one c b (inr i) (inl refl)))

  all_follow : (w : Waiting) (bs : List (Waiting × Tree)) → ((c : Waiting × Tree) → In c bs → IsEventBranch h limit c) → ((c : Waiting × Tree) → In c bs → c.0 ≡ w)
      → AllByRecursion (Follows h limit w) (map (λ (c : Waiting × Tree). c.1) bs)
  all_follow w [] f g = tt
  all_follow w (c ∷ bs) f g = (subst (λ v. Follows h limit v c.1) (g c (inl refl)) (f c (inl refl)).next, all_follow w bs (λ d i. f d (inr i)) (λ d i. g d (inr i)))

  one_fine : (l : List (Waiting × Tree)) → AreOfOne l → IsEventGuard h (joined l).0 × GoesOnAsAny (Follows h limit) (joined l)
  one_fine [] a = absurd a.there
  one_fine (b ∷ bs) a = (
    (a.events b (inl refl)).guard,
    record {
      parts = b.1 ∷ map (λ (c : Waiting × Tree). c.1) bs;
      form = refl;
      some = λ e. cc;
      each = ((a.events b (inl refl)).next, all_follow b.0 bs (λ c i. a.events c (inr i)) (λ c i. a.one c b (inr i) (inl refl)));
    },
  )

  -- the guard is one of the block
  joined_guard : (l : List (Waiting × Tree)) → AreOfOne l → (b : Waiting × Tree) × In b l × (place h (joined l) ≡ place h b)
  joined_guard [] a = absurd a.there
  joined_guard (b ∷ bs) a = (b, inl refl, refl)

  place_at : (k : ℕ) → In k (keys h E) → place h (branch_at h E k) ≡ k
  place_at k i = let r = joined_guard (block h E k) (of_one k i) in r.2 ∙ (in_block h E k r.0 r.1).1

  places_at : (ks : List ℕ) → Within ks (keys h E) → map (place h) (map at ks) ≡ ks
  places_at [] f = refl
  places_at (k ∷ ks) f = λ i. place_at k (f k (inl refl)) i ∷ places_at ks (λ l j. f l (inr j)) i

  -- ---- the branches of some places

  places_join : (ks : List ℕ) (R : List (Waiting × Tree)) → Within ks (keys h E) → Turns (scope_of h) (blocks h E ks ++ R) (map at ks ++ R)
  places_join ks R f = subst (λ l. Turns (scope_of h) (blocks h E ks ++ R) (l ++ R)) (flat_ones at ks)
      (each_turns (scope_of h) is.kept [] (block h E) (λ k. at k ∷ []) ks R (λ k i T. one_joins (block h E k) T (of_one k (f k i))))

  accept_joins : (ks : List ℕ) (R : List (Waiting × Tree)) → Within ks (keys h E) → Turns (scope_of h) (share h is wide E guards ks ∷ R) (accepting (map at ks) ∷ R)
  accept_joins ks R f = acceptance_turns (scope_of h) is.kept R
      (subst (λ l. Turns (scope_of h) l (map at ks)) (append-nil (blocks h E ks))
      (subst (λ l. Turns (scope_of h) (blocks h E ks ++ []) l) (append-nil (map at ks)) (places_join ks [] f)))

  -- ---- acceptances and ends

  module _ (accepts : List (List (Waiting × Tree))) (inside : (A : List (Waiting × Tree)) → In A accepts → Within A E) (ends : List (List (Name × ℕ)))
      (states : (s : List (Name × ℕ)) → In s ends → is_state h.params s ≡ true) (full : accepts ≡ [] → ends ≡ [] → ⊥) where
    abbrev sets : List (List ℕ)
    sets = map (keys h) accepts

    least : AreLeast h is wide E guards (map (keys h) accepts)
    least = least_of h is wide E guards (map (keys h) accepts)

    abbrev kept : List (List ℕ)
    kept = sorted text_less least.kept

    abbrev finals : List (List (Name × ℕ))
    finals = sorted (end_less h) ends

    kept_same : Same least.kept (sorted text_less least.kept)
    kept_same = same_sorted text_less (λ k. Unit {0}) (λ x y p q. texts_total x y) least.kept (λ x i. tt)

    finals_same : Same ends (sorted (end_less h) ends)
    finals_same = same_sorted (end_less h) (λ s. is_state h.params s ≡ true) (ends_total h) ends states

    of_set : (ks : List ℕ) → In ks kept → (A : List (Waiting × Tree)) × In A accepts × (ks ≡ keys h A)
    of_set ks i = map_in (keys h) accepts ks (least.inside ks (kept_same.back ks i))

    known : (ks : List ℕ) → In ks kept → Within ks (keys h E)
    known ks i k j =
        let r = of_set ks i in
        let b = in_keys h r.0 k (subst (λ l. In k l) r.2 j) in
        subst (λ n. In n (keys h E)) (sym b.2) (key_in h E b.0 (inside r.0 r.1 b.0 b.1))

    abbrev node : Node
    node = record { events = map at (keys h E); accepts = map (map at) kept; ends = finals }

    -- ---- the way there

    abbrev D : List (Waiting × Tree)
    D = flat (one_end h) ends

    abbrev last : List (Waiting × Tree)
    last = flat (one_end h) finals

    abbrev accepted : List ℕ → List (Waiting × Tree)
    accepted ks = accepting (map at ks) ∷ []

    shared : Turns (scope_of h) (E ++ (flat one_acceptance accepts ++ D)) (E ++ (each_share h is wide E guards sets ++ D))
    shared = subst (λ l. Turns (scope_of h) (E ++ (flat one_acceptance accepts ++ D)) (E ++ (l ++ D))) (flat_mapped (λ ks. share h is wide E guards ks ∷ []) (keys h) accepts)
        (each_turns (scope_of h) is.kept E one_acceptance (λ A. share h is wide E guards (keys h A) ∷ []) accepts D (λ A i R. shares h is wide E guards A (inside A i) R))

    in_order : Turns (scope_of h) (E ++ (each_share h is wide E guards least.kept ++ D)) (blocks h E (keys h E) ++ (each_share h is wide E guards kept ++ last))
    in_order = by_same (same_both E (blocks h E (keys h E)) (each_share h is wide E guards least.kept ++ D) (each_share h is wide E guards kept ++ last) (all_blocks h E)
        (same_both (each_share h is wide E guards least.kept) (each_share h is wide E guards kept) D last
        (flat_same (λ ks. share h is wide E guards ks ∷ []) least.kept kept kept_same) (flat_same (one_end h) ends finals finals_same)))

    sets_join : (B : List (Waiting × Tree)) → Turns (scope_of h) (B ++ (each_share h is wide E guards kept ++ last)) (B ++ (flat accepted kept ++ last))
    sets_join B =
        on (by_same (same_turned B (each_share h is wide E guards kept) last))
        (on (each_turns (scope_of h) is.kept [] (λ ks. share h is wide E guards ks ∷ []) accepted kept (B ++ last) (λ ks i T. accept_joins ks T (known ks i)))
        (by_same (same_turned (flat accepted kept) B last)))

    abbrev final_branch : List (Name × ℕ) → Waiting × Tree
    final_branch s = (ready, ending_cleared h s)

    form : map at (keys h E) ++ (flat accepted kept ++ last) ≡ (map at (keys h E) ++ map accepting (map (map at) kept)) ++ map final_branch finals
    form =
        ap (λ l. map at (keys h E) ++ (l ++ last)) (flat_mapped one_acceptance (map at) kept ∙ flat_ones accepting (map (map at) kept))
        ∙ (ap (λ l. map at (keys h E) ++ (map accepting (map (map at) kept) ++ l)) (flat_ones final_branch finals)
        ∙ sym (append_assoc (map at (keys h E)) (map accepting (map (map at) kept)) (map final_branch finals)))

    comes : Turns (scope_of h) (E ++ (flat one_acceptance accepts ++ D)) ((map at (keys h E) ++ map accepting (map (map at) kept)) ++ map final_branch finals)
    comes =
        on shared (on (least.turns D) (on in_order
        (on (places_join (keys h E) (each_share h is wide E guards kept ++ last) (λ k i. i))
        (subst (λ l. Turns (scope_of h) (map at (keys h E) ++ (each_share h is wide E guards kept ++ last)) l) form (sets_join (map at (keys h E)))))))

    -- ---- what it is

    branch_fine : (b : Waiting × Tree) → In b (map at (keys h E)) → IsEventGuard h b.0 × GoesOnAsAny (Follows h limit) b
    branch_fine b i =
        let r = map_in at (keys h E) b i in
        subst (λ c. IsEventGuard h c.0 × GoesOnAsAny (Follows h limit) c) (sym r.2) (one_fine (block h E r.0) (of_one r.0 r.1))

    places_rise : (ks : List ℕ) → Within ks (keys h E) → Chain nat_lt None ks → Chain (branch_less h) None (map at ks)
    places_rise ks f c = chain_mapped nat_lt (branch_less h) at ks
        (λ y z i j l. subst (λ n. nat_lt n (place h (at z)) ≡ true) (sym (place_at y (f y i))) (subst (λ n. nat_lt y n ≡ true) (sym (place_at z (f z j))) l)) c

    in_accepts : (set : List (Waiting × Tree)) → In set (map (map at) kept) → (ks : List ℕ) × In ks kept × (set ≡ map at ks)
    in_accepts set i = map_in (map at) kept set i

    set_rises : (ks : List ℕ) → In ks kept → Chain nat_lt None ks
    set_rises ks i = let r = of_set ks i in subst (Chain nat_lt None) (sym r.2) (sorted_chain nat_lt (map (place h) r.0))

    numbers_in : (ks ls : List ℕ) → In ks kept → In ls kept → ((b : Waiting × Tree) → In b (map at ls) → In b (map at ks)) → Within ls ks
    numbers_in ks ls i j f k u =
        let r = map_in at ks (at k) (f (at k) (in_map at ls k u)) in
        subst (λ n. In n ks) (sym (sym (place_at k (known ls j k u)) ∙ (ap (place h) r.2 ∙ place_at r.0 (known ks i r.0 r.1)))) r.1

    least_here : (set other : List (Waiting × Tree)) → In set (map (map at) kept) → In other (map (map at) kept) → ((b : Waiting × Tree) → In b other → In b set) → other ≡ set
    least_here set other i j f =
        let r = in_accepts set i in
        let q = in_accepts other j in
        let w = numbers_in r.0 q.0 r.1 q.1 (λ b u. subst (λ l. In b l) r.2 (f b (subst (λ l. In b l) (sym q.2) u))) in
        q.2 ∙ (ap (map at) (least.apart q.0 r.0 (kept_same.back q.0 q.1) (kept_same.back r.0 r.1) w) ∙ sym r.2)

    within_events : (set : List (Waiting × Tree)) → In set (map (map at) kept) → (b : Waiting × Tree) → In b set → In b (map at (keys h E))
    within_events set i b j =
        let r = in_accepts set i in
        let k = map_in at r.0 b (subst (λ l. In b l) r.2 j) in
        subst (λ c. In c (map at (keys h E))) (sym k.2) (in_map at (keys h E) k.0 (known r.0 r.1 k.0 k.1))

    some_set : map (map at) kept ≡ [] → accepts ≡ []
    some_set e =
        empty_of accepts sets (λ A i. (keys h A, in_map (keys h) accepts A i))
        (least.some (empty_of least.kept (map (map at) kept) (λ ks i. (map at ks, in_map (map at) kept ks (kept_same.there ks i))) e))

    fine : IsUnifiedNode h (Follows h limit) node
    fine = record {
      guards = branch_fine;
      rising = places_rise (keys h E) (λ k i. i) (sorted_chain nat_lt (map (place h) E));
      within = within_events;
      accepts_in_order = λ set i. let r = in_accepts set i in subst (Chain (branch_less h) None) (sym r.2) (places_rise r.0 (known r.0 r.1) (set_rises r.0 r.1));
      accepts_rising = chain_mapped text_less (set_less h) (map at) kept
          (λ y z i j l. subst (λ t. text_less t (map (place h) (map at z)) ≡ true) (sym (places_at y (known y i))) (subst (λ t. text_less y t ≡ true) (sym (places_at z (known z j))) l))
          (sorted_chain text_less least.kept);
      least = least_here;
      states = all_of (λ s. is_state h.params s ≡ true) finals (λ s i. states s (finals_same.back s i));
      ends_rising = sorted_chain (end_less h) ends;
      full = λ e f. full (some_set e) (empty_of ends finals (λ s i. (s, finals_same.there s i)) f);
    }

    pub unifies : (bs : List (Waiting × Tree)) → Turns (scope_of h) bs (E ++ (flat one_acceptance accepts ++ flat (one_end h) ends)) → Keeps (environment (scope_of h)) (alt (guarded bs))
        → IsUnified h limit (alt (guarded bs))
    unifies bs t k = record { node = node; leads = (on t comes).leads k; unified = fine }

-- a settled ALT leads to a node
pub alternatives_unify : (h : Header) → IsHeader h → HaveWidths h.params → (limit : ℕ) (bs : List (Waiting × Tree)) → AllByRecursion (IsSettledBranch h limit) bs
    → Keeps (environment (scope_of h)) (alt (guarded bs)) → IsUnified h limit (alt (guarded bs))
alternatives_unify h is wide limit bs all k =
    let s = stage_of h limit is bs all in unifies h is wide limit s.events s.good s.accepts s.inside s.ends s.states s.full bs s.turns k
