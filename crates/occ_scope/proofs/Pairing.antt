use Rattle.std.proofs.Common.{◌≡◌, ◌<◌, ◌≤◌, ◌+◌, ◌++◌, ◌&&◌, ℕ, zero, suc, Bool, true, false, cond, List, [], ◌∷◌, Option, Some, None, length, get_or, take, is_some, nat_lt, refl, sym, ap, ◌∙◌, subst, ⊎_elim, arith}
use Rattle.std.proofs.lemmas.Bool.{and_parts, and_from, cases_Bool, ltb-true, lt-ltb}
use Rattle.std.proofs.lemmas.List.{take_more, take_all}
use Rattle.std.specs.List.{list_all, filter}
use Rattle.std.specs.Cmp.{on_total}
use Rattle.std.specs.Ordering.{is_lt, eq_by_cmp}
use Rattle.occ_node.specs.occ_base.declared.event.Dir.TheVariants.{Input}
use Rattle.occ_node.specs.occ_base.declared.event.Event.{Event}
use Rattle.occ_node.specs.occ_accept.Order.{event_cmp, strict}
use Rattle.occ_node.proofs.from_accept.Strict.{all_filter, strict_filter, tied_same}
use Rattle.occ_node.proofs.from_accept.Events.{cmp_total, event_exact}
use Rattle.occ_node.specs.Offers.{offer_cmp, next_in, is_offered, are_below}
use Rattle.occ_node.specs.declared.node.NodeId.{NodeId}
use Rattle.occ_scope.specs.Paired.{Paired}

-- what a list of offers gives past its end
abbrev pub no_offer : Event × NodeId
no_offer = (record { chan = record { 0 = 0 }; dir = Input; value = 0 }, record { 0 = 0 })

-- ---- offers of the same events
module _ (R : NodeId → NodeId → Type 0) where
  pub paired_push : (olds news : List (Event × NodeId)) (o : Event × NodeId) (n : NodeId) → Paired R olds news → R o.1 n → Paired R (olds ++ o ∷ []) (news ++ (o.0, n) ∷ [])
  paired_push [] [] o n p r = (refl, (r, tt))
  paired_push [] (m ∷ news) o n p r = absurd p
  paired_push (k ∷ olds) [] o n p r = absurd p
  paired_push (k ∷ olds) (m ∷ news) o n p r = (p.0, (p.1.0, paired_push olds news o n p.1.1 r))

  pub paired_more : (S : NodeId → NodeId → Type 0) → ((a b : NodeId) → R a b → S a b) → (olds news : List (Event × NodeId)) → Paired R olds news → Paired S olds news
  paired_more S f [] [] p = tt
  paired_more S f [] (m ∷ news) p = absurd p
  paired_more S f (k ∷ olds) [] p = absurd p
  paired_more S f (k ∷ olds) (m ∷ news) p = (p.0, (f k.1 m.1 p.1.0, paired_more S f olds news p.1.1))

  later_same : (e : Event) (olds news : List (Event × NodeId)) → Paired R olds news → list_all (λ o. is_lt (event_cmp e o.0)) olds ≡ list_all (λ o. is_lt (event_cmp e o.0)) news
  later_same e [] [] p = refl
  later_same e [] (m ∷ news) p = absurd p
  later_same e (k ∷ olds) [] p = absurd p
  later_same e (k ∷ olds) (m ∷ news) p =
      let rest : list_all (λ o. is_lt (event_cmp e o.0)) olds ≡ list_all (λ o. is_lt (event_cmp e o.0)) news = later_same e olds news p.1.1 in
      let event : k.0 ≡ m.0 = p.0 in
      λ i. is_lt (event_cmp e (event i)) && rest i

  strict_same : (olds news : List (Event × NodeId)) → Paired R olds news → strict offer_cmp olds ≡ strict offer_cmp news
  strict_same [] [] p = refl
  strict_same [] (m ∷ news) p = absurd p
  strict_same (k ∷ olds) [] p = absurd p
  strict_same (k ∷ olds) (m ∷ news) p =
      let later : list_all (λ o. is_lt (event_cmp k.0 o.0)) olds ≡ list_all (λ o. is_lt (event_cmp k.0 o.0)) news = later_same k.0 olds news p.1.1 in
      let rest : strict offer_cmp olds ≡ strict offer_cmp news = strict_same olds news p.1.1 in
      (λ i. later i && rest i) ∙ ap (λ e. list_all (λ o. is_lt (event_cmp e o.0)) news && strict offer_cmp news) p.0

  pub paired_strict : (olds news : List (Event × NodeId)) → Paired R olds news → strict offer_cmp olds ≡ true → strict offer_cmp news ≡ true
  paired_strict olds news p h = sym (strict_same olds news p) ∙ h

  pub paired_below : (n : ℕ) → ((a b : NodeId) → R a b → b.0 < n) → (olds news : List (Event × NodeId)) → Paired R olds news → are_below n news ≡ true
  paired_below n f [] [] p = refl
  paired_below n f [] (m ∷ news) p = absurd p
  paired_below n f (k ∷ olds) [] p = absurd p
  paired_below n f (k ∷ olds) (m ∷ news) p = and_from (nat_lt m.1.0 n) (are_below n news) (lt-ltb m.1.0 n (f k.1 m.1 p.1.0)) (paired_below n f olds news p.1.1)

  -- an event leads nowhere by both, or to two nodes that are related
  abbrev pub Related : Option NodeId → Option NodeId → Type 0
  Related None None = Unit {0}
  Related None (Some b) = ⊥
  Related (Some a) None = ⊥
  Related (Some a) (Some b) = R a b

  related_cond : (c : Bool) (a b : NodeId) (x y : Option NodeId) → R a b → Related x y → Related (cond c (Some a) x) (cond c (Some b) y)
  related_cond true a b x y r s = r
  related_cond false a b x y r s = s

  pub paired_next : (olds news : List (Event × NodeId)) → Paired R olds news → (e : Event) → Related (next_in olds e) (next_in news e)
  paired_next [] [] p e = tt
  paired_next [] (m ∷ news) p e = absurd p
  paired_next (k ∷ olds) [] p e = absurd p
  paired_next (k ∷ olds) (m ∷ news) p e = subst (λ f. Related (cond (eq_by_cmp event_cmp e k.0) (Some k.1) (next_in olds e)) (cond (eq_by_cmp event_cmp e f) (Some m.1) (next_in news e))) p.0
      (related_cond (eq_by_cmp event_cmp e k.0) k.1 m.1 (next_in olds e) (next_in news e) p.1.0 (paired_next olds news p.1.1 e))

  related_there : (x y : Option NodeId) → Related x y → is_some y ≡ is_some x
  related_there None None r = refl
  related_there None (Some b) r = absurd r
  related_there (Some a) None r = absurd r
  related_there (Some a) (Some b) r = refl

  pub paired_offered : (olds news : List (Event × NodeId)) → Paired R olds news → (e : Event) → is_offered news e ≡ is_offered olds e
  paired_offered olds news p e = related_there (next_in olds e) (next_in news e) (paired_next olds news p e)

  -- a loop over the offers
  pub paired_step : (items news : List (Event × NodeId)) (i : ℕ) (d : Event × NodeId) (n : NodeId) → i < length items → Paired R (take i items) news → R (get_or items i d).1 n
      → Paired R (take (i + 1) items) (news ++ ((get_or items i d).0, n) ∷ [])
  paired_step items news i d n h p r = subst (λ xs. Paired R xs (news ++ ((get_or items i d).0, n) ∷ [])) (sym (take_more items i d h)) (paired_push (take i items) news (get_or items i d) n p r)

  pub paired_whole : (items olds news : List (Event × NodeId)) (i : ℕ) → length items ≤ i → items ≡ olds → Paired R (take i items) news → Paired R olds news
  paired_whole items olds news i h same p = subst (λ xs. Paired R xs news) (take_all i items h ∙ same) p

-- ---- offers of some events alone
pub below_filter : (n : ℕ) (test : Event → Bool) (offers : List (Event × NodeId)) → are_below n offers ≡ true → are_below n (filter (λ o. test o.0) offers) ≡ true
below_filter n test offers h = all_filter (λ (o : Event × NodeId). nat_lt o.1.0 n) (λ o. test o.0) offers h

pub offers_filter : (test : Event → Bool) (offers : List (Event × NodeId)) → strict offer_cmp offers ≡ true → strict offer_cmp (filter (λ o. test o.0) offers) ≡ true
offers_filter test offers h = strict_filter (on_total (λ (o : Event × NodeId). o.0) cmp_total) (λ o. test o.0) offers h

same_cond : (c : Bool) (o : Option NodeId) → o ≡ cond c o o
same_cond true o = refl
same_cond false o = refl

pub next_filter : (test : Event → Bool) (offers : List (Event × NodeId)) (e : Event) → next_in (filter (λ o. test o.0) offers) e ≡ cond (test e) (next_in offers e) None
next_filter test [] e = same_cond (test e) None
next_filter test (o ∷ offers) e = ⊎_elim
    (λ (t : eq_by_cmp event_cmp e o.0 ≡ true). ⊎_elim
    (λ (k : test o.0 ≡ true). ap (λ c. next_in (cond c (o ∷ filter (λ o. test o.0) offers) (filter (λ o. test o.0) offers)) e) k
    ∙ ap (λ c. cond c (Some o.1) (next_in (filter (λ o. test o.0) offers) e)) t
    ∙ sym (ap (λ c. cond c (cond (eq_by_cmp event_cmp e o.0) (Some o.1) (next_in offers e)) None) (ap test (tied_same cmp_total event_exact e o.0 t) ∙ k) ∙ ap (λ c. cond c (Some o.1) (next_in offers e)) t))
    (λ (k : test o.0 ≡ false). ap (λ c. next_in (cond c (o ∷ filter (λ o. test o.0) offers) (filter (λ o. test o.0) offers)) e) k
    ∙ next_filter test offers e
    ∙ ap (λ c. cond c (next_in offers e) None) (ap test (tied_same cmp_total event_exact e o.0 t) ∙ k)
    ∙ sym (ap (λ c. cond c (cond (eq_by_cmp event_cmp e o.0) (Some o.1) (next_in offers e)) None) (ap test (tied_same cmp_total event_exact e o.0 t) ∙ k)))
    (cases_Bool (test o.0)))
    (λ (t : eq_by_cmp event_cmp e o.0 ≡ false).
    let rest : cond (test e) (next_in offers e) None ≡ cond (test e) (cond (eq_by_cmp event_cmp e o.0) (Some o.1) (next_in offers e)) None = ap (λ c. cond (test e) (cond c (Some o.1) (next_in offers e)) None) (sym t) in
    ⊎_elim
    (λ (k : test o.0 ≡ true). ap (λ c. next_in (cond c (o ∷ filter (λ o. test o.0) offers) (filter (λ o. test o.0) offers)) e) k
    ∙ ap (λ c. cond c (Some o.1) (next_in (filter (λ o. test o.0) offers) e)) t ∙ next_filter test offers e ∙ rest)
    (λ (k : test o.0 ≡ false). ap (λ c. next_in (cond c (o ∷ filter (λ o. test o.0) offers) (filter (λ o. test o.0) offers)) e) k ∙ next_filter test offers e ∙ rest)
    (cases_Bool (test o.0)))
    (cases_Bool (eq_by_cmp event_cmp e o.0))

-- an item of offers has an earlier node
pub item_below : (n : ℕ) (offers : List (Event × NodeId)) (i : ℕ) (d : Event × NodeId) → are_below n offers ≡ true → i < length offers → (get_or offers i d).1.0 < n
item_below n [] i d h k = absurd (omega arith)
item_below n (o ∷ offers) zero d h k = ltb-true o.1.0 n (and_parts (nat_lt o.1.0 n) (are_below n offers) h).0
item_below n (o ∷ offers) (suc i) d h k = item_below n offers i d (and_parts (nat_lt o.1.0 n) (are_below n offers) h).1 (omega arith)
