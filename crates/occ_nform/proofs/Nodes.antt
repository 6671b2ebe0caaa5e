-- Nodes and their rows: what a row offers, and that two nodes of one row are one.
use Rattle.std.proofs.Common.{◌≡◌, ◌≤◌, ◌<◌, ◌+◌, ◌^◌, ◌==◌, ◌&&◌, ◌||◌, ℕ, max, Bool, true, false, not, cond, nat_lt, List, [], ◌∷◌, Option, Some, None, get_or, refl, sym, ap, ◌∙◌, subst, arith}
use Rattle.std.proofs.Math.Nat.{mod-eq_of_lt}
use Rattle.std.proofs.lemmas.Bool.{and_parts, false≢true}
use Rattle.std.proofs.lemmas.Option.{same_Some}
use Rattle.std.proofs.lemmas.Cmp.{nat_list_cmp_total}
use Rattle.std.proofs.lemmas.Map.Lookups.{exact_bytes}
use Rattle.std.specs.List.{list_all, list_any, AllByRecursion}
use Rattle.std.specs.Option.{option_map}
use Rattle.std.specs.Cmp.Lexicographic.{slice_cmp}
use Rattle.std.specs.Ordering.{is_lt, is_eq, eq_by_cmp, nat_cmp, ordering_reverse, ordering_then}
use Rattle.std.specs.declared.cmp.Ordering.{Ordering}
use Rattle.std.specs.declared.cmp.Ordering.TheVariants.{Less, Equal, Greater}
use Rattle.occ_syntax.specs.occ_base.declared.event.Event.{Event}
use Rattle.occ_syntax.specs.occ_base.declared.names.Name.{Name}
use Rattle.occ_syntax.specs.declared.scope.Kind.{Kind}
use Rattle.occ_syntax.specs.Counts.{bits_of_scope}
use Rattle.occ_nform_rows.specs.occ_dd.Store.{has}
use Rattle.occ_nform_rows.specs.occ_accept.Order.{event_cmp, strict}
use Rattle.occ_nform_rows.proofs.from_accept.Strict.{less_is}
use Rattle.occ_nform_rows.proofs.from_accept.Events.{cmp_total}
use Rattle.occ_nform_rows.proofs.from_accept.Chains.{same_refusals}
use Rattle.occ_nform_rows.specs.occ_node.Offers.{offer_cmp, next_in}
use Rattle.occ_nform_rows.specs.occ_node.World.{IsNode, row_of}
use Rattle.occ_nform_rows.specs.occ_node.declared.node.NodeId.{NodeId}
use Rattle.occ_nform_rows.specs.occ_node.declared.world.World.{World}
use Rattle.occ_nform_rows.proofs.from_node.Behaviours.{is_row}
use Rattle.occ_nform_rows.proofs.from_node.Table.{next_here}
use Rattle.occ_nform_rows.specs.occ_nform_table.declared.table.TableRow.{TableRow}
use Rattle.occ_nform_rows.specs.occ_nform_table.Behaviours.{next_row}
use Rattle.occ_nform_rows.specs.occ_nform_table.Judging.{text_less, height_over}
use Rattle.occ_nform_rows.specs.occ_nform_table.Lines.{state_place}
use Rattle.occ_nform_rows.specs.occ_compare.Interface.{IsWithin}
use Rattle.occ_nform_rows.specs.occ_compare.Orders.{has_set}
use Rattle.occ_nform_rows.specs.occ_compare.Places.{assignment_at, number_in}
use Rattle.occ_nform_rows.specs.occ_compare.Steps.{same_node}
use Rattle.occ_nform_rows.proofs.from_compare.Numbers.{again, below}
use Rattle.occ_nform_rows.proofs.from_compare.Walking.{alike}
use Rattle.occ_nform_rows.specs.Listed.{IsListed, number_of, are_marked}
use Rattle.occ_nform.specs.Numbering.{nodes_over}
use Rattle.occ_nform.proofs.Rows.{over_above, over_most, row_found}

-- ---- lists of which each item has a property
pub each_more : {A : Type 0} (P Q : A → Type 0) → ((x : A) → P x → Q x) → (xs : List A) → AllByRecursion P xs → AllByRecursion Q xs
each_more P Q f [] h = tt
each_more P Q f (x ∷ xs) h = (f x h.0, each_more P Q f xs h.1)

pub each_two : {A : Type 0} (P Q R : A → Type 0) → ((x : A) → P x → Q x → R x) → (xs : List A) → AllByRecursion P xs → AllByRecursion Q xs → AllByRecursion R xs
each_two P Q R f [] h k = tt
each_two P Q R f (x ∷ xs) h k = (f x h.0 k.0, each_two P Q R f xs h.1 k.1)

-- ---- offers
pub all_next : (P : NodeId → Type 0) (offers : List (Event × NodeId)) (e : Event) (b : NodeId) → AllByRecursion (λ (o : Event × NodeId). P o.1) offers → next_in offers e ≡ Some b → P b
all_next P [] e b all h = absurd (let f : None ≡ Some b = h in cc)
all_next P (o ∷ offers) e b all h = by (λ k. all_next P offers e b all.1 k) (eq_by_cmp event_cmp e o.0) refl
  where
    by : (next_in offers e ≡ Some b → P b) → (t : Bool) → eq_by_cmp event_cmp e o.0 ≡ t → P b
    by more true t = subst P (same_Some o.1 b (sym (ap (λ c. cond c (Some o.1) (next_in offers e)) t) ∙ h)) all.0
    by more false t = more (sym (ap (λ c. cond c (Some o.1) (next_in offers e)) t) ∙ h)

after_less : (e f : Event) → is_lt (event_cmp e f) ≡ true → eq_by_cmp event_cmp f e ≡ false
after_less e f h = ap is_eq (cmp_total.antisymm f e ∙ ap ordering_reverse (less_is (event_cmp e f) h))

-- each offer is found at its event
pub nodes_found : (offers : List (Event × NodeId)) → strict offer_cmp offers ≡ true → AllByRecursion (λ (o : Event × NodeId). next_in offers o.0 ≡ Some o.1) offers
nodes_found [] h = tt
nodes_found (o ∷ offers) h =
    let p = and_parts (list_all (λ y. is_lt (event_cmp o.0 y.0)) offers) (strict offer_cmp offers) h in
    (next_here o offers, behind offers p.0 (nodes_found offers p.1))
  where
    behind : (ys : List (Event × NodeId)) → list_all (λ y. is_lt (event_cmp o.0 y.0)) ys ≡ true → AllByRecursion (λ (y : Event × NodeId). next_in offers y.0 ≡ Some y.1) ys
        → AllByRecursion (λ (y : Event × NodeId). next_in (o ∷ offers) y.0 ≡ Some y.1) ys
    behind [] a f = tt
    behind (y ∷ ys) a f =
        let q = and_parts (is_lt (event_cmp o.0 y.0)) (list_all (λ y. is_lt (event_cmp o.0 y.0)) ys) a in
        (ap (λ c. cond c (Some o.1) (next_in offers y.0)) (after_less o.0 y.0 q.0) ∙ f.0, behind ys q.1 f.1)

-- ---- other numbers
mapped_same : (f g : NodeId → ℕ) (o : Option NodeId) → ((b : NodeId) → o ≡ Some b → f b ≡ g b) → option_map f o ≡ option_map g o
mapped_same f g None h = refl
mapped_same f g (Some b) h = ap Some (h b refl)

module _ (w : World) (params : List (Name × Kind)) where
  -- a row is that of its node also for other numbers, which the nodes that it offers have too
  pub listed_same : (N M : List ℕ) (a : NodeId) (row : TableRow) → IsListed w params N a row → AllByRecursion (λ (o : Event × NodeId). number_of N o.1 ≡ number_of M o.1) (row_of w a).offers → IsListed w params M a row
  listed_same N M a row is same = record {
    ends = is.ends;
    refusals = is.refusals;
    offers = λ e. is.offers e ∙ mapped_same (number_of N) (number_of M) (next_in (row_of w a).offers e) (λ b h. all_next (λ b. number_of N b ≡ number_of M b) (row_of w a).offers e b same h);
    form = λ marked n all. is.form marked n (each_two _ _ (λ (o : Event × NodeId). number_of N o.1 < n) (λ o e (small : number_of M o.1 < n). omega (arith, e)) (row_of w a).offers same all);
    fine = is.fine;
    alive = is.alive;
  }

  -- ---- two nodes of one row
  module _ (N : List ℕ) (node : ℕ → NodeId) (a b : NodeId) (ha : IsNode w a) (hb : IsNode w b) (wa : IsWithin w params a) (wb : IsWithin w params b) (few : bits_of_scope params ≤ 64)
      (ta : AllByRecursion (λ (o : Event × NodeId). node (number_of N o.1) ≡ o.1) (row_of w a).offers) (tb : AllByRecursion (λ (o : Event × NodeId). node (number_of N o.1) ≡ o.1) (row_of w b).offers)
      (r s : TableRow) (la : IsListed w params N a r) (lb : IsListed w params N b s) (same : r ≡ s) where
    one_next : (o p : Option NodeId) → ((c : NodeId) → o ≡ Some c → node (number_of N c) ≡ c) → ((c : NodeId) → p ≡ Some c → node (number_of N c) ≡ c) → option_map (number_of N) o ≡ option_map (number_of N) p → o ≡ p
    one_next None None f g h = refl
    one_next None (Some d) f g h = cc
    one_next (Some c) None f g h = cc
    one_next (Some c) (Some d) f g h = ap Some (sym (f c refl) ∙ ap node (same_Some (number_of N c) (number_of N d) h) ∙ g d refl)

    next_same : (e : Event) → next_in (row_of w a).offers e ≡ next_in (row_of w b).offers e
    next_same e = one_next (next_in (row_of w a).offers e) (next_in (row_of w b).offers e)
        (λ c h. all_next (λ c. node (number_of N c) ≡ c) (row_of w a).offers e c ta h) (λ c h. all_next (λ c. node (number_of N c) ≡ c) (row_of w b).offers e c tb h)
        (sym (la.offers e) ∙ ap (λ (row : TableRow). next_row row.offers e) same ∙ lb.offers e)

    accepts_same : (row_of w a).accepts ≡ (row_of w b).accepts
    accepts_same = same_refusals (row_of w a).accepts (row_of w b).accepts (is_row w a ha).chain (is_row w b hb).chain
        (λ X. sym (la.refusals X) ∙ ap (λ (row : TableRow). list_any (list_all (λ e. not (X e))) row.accepts) same ∙ lb.refusals X)

    ends_at : (k : ℕ) → k < 2 ^ bits_of_scope params → has w.store (row_of w a).ends (assignment_at params k) ≡ has w.store (row_of w b).ends (assignment_at params k)
    ends_at k h = sym (la.ends k h) ∙ ap (λ (row : TableRow). list_any (λ state. state_place params state == k) row.ends) same ∙ lb.ends k h

    ends_same : (x : ℕ) → x < 2 ^ bits_of_scope params → has w.store (row_of w a).ends x ≡ has w.store (row_of w b).ends x
    ends_same x h =
        let is : assignment_at params (number_in params x) ≡ x = again params x ∙ mod-eq_of_lt h in
        subst (λ y. has w.store (row_of w a).ends y ≡ has w.store (row_of w b).ends y) is (ends_at (number_in params x) (below params x))

    one_node : (o p : Option NodeId) → o ≡ p → not (same_node o p) ≡ false
    one_node o p h = subst (λ q. not (same_node o q) ≡ false) h (itself o)
      where
        itself : (o : Option NodeId) → not (same_node o o) ≡ false
        itself None = refl
        itself (Some c) = ap not (eq-eqb_self c.0)
          where
            eq-eqb_self : (n : ℕ) → (n == n) ≡ true
            eq-eqb_self n = grind arith

    pub nodes_same : a ≡ b
    nodes_same = alike w params a b ha hb wa wb ends_same (λ set. ap (λ sets. has_set sets set) accepts_same) (λ e. one_node (next_in (row_of w a).offers e) (next_in (row_of w b).offers e) (next_same e))

  -- ---- the height of a row
  module _ (N : List ℕ) (heights H : List ℕ) (a : NodeId) (row : TableRow) (ha : IsNode w a) (listed : IsListed w params N a row) (marked : are_marked params ≡ true)
      (same : AllByRecursion (λ (o : Event × NodeId). get_or H (number_of N o.1) 0 ≡ get_or heights o.1.0 0) (row_of w a).offers) where
    over_one : (offers : List (Event × NodeId)) (e : Event) (b : NodeId) → next_in offers e ≡ Some b → 1 + get_or heights b.0 0 ≤ nodes_over heights offers
    over_one [] e b h = absurd (let f : None ≡ Some b = h in cc)
    over_one (o ∷ offers) e b h = by (λ k. over_one offers e b k) (eq_by_cmp event_cmp e o.0) refl
      where
        by : (next_in offers e ≡ Some b → 1 + get_or heights b.0 0 ≤ nodes_over heights offers) → (t : Bool) → eq_by_cmp event_cmp e o.0 ≡ t → 1 + get_or heights b.0 0 ≤ max (1 + get_or heights o.1.0 0) (nodes_over heights offers)
        by more true t = let one : get_or heights o.1.0 0 ≡ get_or heights b.0 0 = ap (λ (n : NodeId). get_or heights n.0 0) (same_Some o.1 b (sym (ap (λ c. cond c (Some o.1) (next_in offers e)) t) ∙ h)) in omega arith
        by more false t = let rest : 1 + get_or heights b.0 0 ≤ nodes_over heights offers = more (sym (ap (λ c. cond c (Some o.1) (next_in offers e)) t) ∙ h) in omega arith

    over_all : (m : ℕ) (offers : List (Event × NodeId)) → AllByRecursion (λ (o : Event × NodeId). 1 + get_or heights o.1.0 0 ≤ m) offers → nodes_over heights offers ≤ m
    over_all m [] h = omega arith
    over_all m (o ∷ offers) h = let first : 1 + get_or heights o.1.0 0 ≤ m = h.0 in let rest : nodes_over heights offers ≤ m = over_all m offers h.1 in omega arith

    one_over : (o : Event × ℕ) → next_row row.offers o.0 ≡ Some o.1 → (p : Option NodeId) → next_in (row_of w a).offers o.0 ≡ p → 1 + get_or H o.1 0 ≤ nodes_over heights (row_of w a).offers
    one_over o h None k = absurd (let f : Some o.1 ≡ None = sym h ∙ listed.offers o.0 ∙ ap (option_map (number_of N)) k in cc)
    one_over o h (Some b) k =
        let number : o.1 ≡ number_of N b = same_Some o.1 (number_of N b) (sym h ∙ listed.offers o.0 ∙ ap (option_map (number_of N)) k) in
        let height : get_or H o.1 0 ≡ get_or heights b.0 0 = ap (λ n. get_or H n 0) number ∙ all_next (λ b. get_or H (number_of N b) 0 ≡ get_or heights b.0 0) (row_of w a).offers o.0 b same k in
        let most : 1 + get_or heights b.0 0 ≤ nodes_over heights (row_of w a).offers = over_one (row_of w a).offers o.0 b k in
        omega arith

    one_below : (o : Event × NodeId) → get_or H (number_of N o.1) 0 ≡ get_or heights o.1.0 0 → next_in (row_of w a).offers o.0 ≡ Some o.1 → 1 + get_or heights o.1.0 0 ≤ height_over H row.offers
    one_below o e h =
        let most : 1 + get_or H (number_of N o.1) 0 ≤ height_over H row.offers = over_above H o.0 (number_of N o.1) row.offers (listed.offers o.0 ∙ ap (option_map (number_of N)) h) in
        omega arith

    pub height_same : height_over H row.offers ≡ nodes_over heights (row_of w a).offers
    height_same =
        let low : height_over H row.offers ≤ nodes_over heights (row_of w a).offers = over_most H (nodes_over heights (row_of w a).offers) row.offers
        (each_more _ (λ (o : Event × ℕ). 1 + get_or H o.1 0 ≤ nodes_over heights (row_of w a).offers) (λ o h. one_over o h (next_in (row_of w a).offers o.0) refl) row.offers (row_found params row (listed.fine marked))) in
        let high : nodes_over heights (row_of w a).offers ≤ height_over H row.offers = over_all (height_over H row.offers) (row_of w a).offers
        (each_two _ _ (λ (o : Event × NodeId). 1 + get_or heights o.1.0 0 ≤ height_over H row.offers) (λ o e h. one_below o e h) (row_of w a).offers same (nodes_found (row_of w a).offers (is_row w a ha).increasing)) in
        omega arith

-- ---- texts
less_cmp : (b c : ℕ) (r : Ordering) → is_lt (ordering_then (nat_cmp b c) r) ≡ (nat_lt b c || (b == c && is_lt r))
less_cmp b c r = by (nat_lt b c) (b == c)
  where
    by : (s t : Bool) → is_lt (ordering_then (cond s Less (cond t Equal Greater)) r) ≡ (s || (t && is_lt r))
    by true t = refl
    by false true = refl
    by false false = refl

pub less_is_cmp : (a b : List ℕ) → text_less a b ≡ is_lt (slice_cmp nat_cmp a b)
unfolding text_less
less_is_cmp [] [] = refl
less_is_cmp [] (c ∷ b) = refl
less_is_cmp (x ∷ a) [] = refl
less_is_cmp (x ∷ a) (c ∷ b) = ap (λ t. nat_lt x c || (x == c && t)) (less_is_cmp a b) ∙ sym (less_cmp x c (slice_cmp nat_cmp a b))

-- texts that aren't in the other order, and aren't one, are in order
pub less_from : (a b : List ℕ) → is_lt (slice_cmp nat_cmp b a) ≡ false → (a ≡ b → ⊥) → text_less a b ≡ true
less_from a b h apart = less_is_cmp a b ∙ by (slice_cmp nat_cmp a b) refl
  where
    by : (r : Ordering) → slice_cmp nat_cmp a b ≡ r → is_lt r ≡ true
    by Less e = refl
    by Equal e = absurd (apart (exact_bytes a b e))
    by Greater e = absurd (false≢true (sym h ∙ ap is_lt (nat_list_cmp_total.antisymm b a ∙ ap ordering_reverse e)))
