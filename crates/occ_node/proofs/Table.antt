use Rattle.std.proofs.Common.{◌≡◌, ◌⊎◌, ◌<◌, ◌≤◌, ◌&&◌, ◌==◌, ◌++◌, ℕ, zero, suc, Bool, true, false, cond, List, [], ◌∷◌, Option, Some, None, length, slice_get, nat_lt, refl, sym, ap, ◌∙◌, subst, inl, inr, ⊎_elim, arith, length-append}
use Rattle.std.proofs.lemmas.Bool.{and_parts, and_from, cases_Bool, both_ways, false≢true, or_left, or_right, eqb-true, ltb-true}
use Rattle.std.proofs.lemmas.Option.{same_Some, get_or_from_slice_get, slice_get-get_or}
use Rattle.std.specs.List.{list_all, list_any}
use Rattle.std.specs.Cmp.{IsEquivalence}
use Rattle.std.specs.Cmp.Lexicographic.{pointwise}
use Rattle.std.specs.Ordering.{is_lt, eq_by_cmp, ordering_reverse}
use Rattle.std.specs.declared.cmp.Ordering.{Ordering}
use Rattle.std.specs.declared.cmp.Ordering.TheVariants.{Less, Equal, Greater}
use Rattle.occ_accept.specs.occ_base.declared.event.Event.{Event}
use Rattle.occ_accept.specs.occ_base.contracts.event.EventPartialEq.TheImpl.{ghosts as event_eq}
use Rattle.occ_mdd.specs.occ_dd.Store.{Keeps, has}
use Rattle.occ_mdd.specs.occ_dd.declared.store.Store.{Store}
use Rattle.occ_mdd.proofs.from_dd.Callers.{known-keeps}
use Rattle.occ_accept.specs.Order.{event_cmp, strict}
use Rattle.occ_accept.specs.Accept.{refuses}
use Rattle.occ_accept.proofs.Strict.{less-not_equal, less_is, tied, tied_same, all_more}
use Rattle.occ_accept.proofs.Events.{cmp_total, event_exact, eq_is}
use Rattle.occ_node.specs.Exact.{exact_node}
use Rattle.occ_node.specs.Offers.{offer_cmp, next_in, are_below}
use Rattle.occ_node.specs.Rows.{IsRow, AreRows, Interns, no_row, row_at, goes_on, node_fails, node_ends}
use Rattle.occ_node.specs.declared.node.NodeId.{NodeId}
use Rattle.occ_node.specs.declared.row.Row.{Row}
use Rattle.occ_node.specs.contracts.node.NodeIdPartialEq.TheImpl.{ghosts as node_eq}
use Rattle.occ_node.specs.contracts.row.RowPartialEq.TheImpl.{ghosts as row_eq}

-- ---- equal rows are the same
pointwise_exact : {A : Type 0} (E : A → A → Bool) → ((x y : A) → E x y ≡ true → x ≡ y) → (xs ys : List A) → pointwise E xs ys ≡ true → xs ≡ ys
pointwise_exact E exact [] [] h = refl
pointwise_exact E exact [] (y ∷ ys) h = absurd (false≢true h)
pointwise_exact E exact (x ∷ xs) [] h = absurd (false≢true h)
pointwise_exact E exact (x ∷ xs) (y ∷ ys) h =
    let p = and_parts (E x y) (pointwise E xs ys) h in
    let first : x ≡ y = exact x y p.0 in
    let rest : xs ≡ ys = pointwise_exact E exact xs ys p.1 in
    λ i. first i ∷ rest i

same_event : (e f : Event) → event_eq.eq e f ≡ true → e ≡ f
same_event e f h = tied_same cmp_total event_exact e f (sym (eq_is e f) ∙ h)

same_offer : (o p : Event × NodeId) → (event_eq.eq o.0 p.0 && node_eq.eq o.1 p.1) ≡ true → o ≡ p
same_offer o p h =
    let q = and_parts (event_eq.eq o.0 p.0) (node_eq.eq o.1 p.1) h in
    let first : o.0 ≡ p.0 = same_event o.0 p.0 q.0 in
    let second : o.1 ≡ p.1 = exact_node o.1 p.1 q.1 in
    λ i. (first i, second i)

pub row_exact : (a b : Row) → row_eq.eq a b ≡ true → a ≡ b
row_exact a b h =
    let p = and_parts (a.ends.0 == b.ends.0) (pointwise (pointwise event_eq.eq) a.accepts b.accepts && pointwise (λ o p. event_eq.eq o.0 p.0 && node_eq.eq o.1 p.1) a.offers b.offers) h in
    let q = and_parts (pointwise (pointwise event_eq.eq) a.accepts b.accepts) (pointwise (λ o p. event_eq.eq o.0 p.0 && node_eq.eq o.1 p.1) a.offers b.offers) p.1 in
    let ends : a.ends.0 ≡ b.ends.0 = eqb-true a.ends.0 b.ends.0 p.0 in
    let accepts : a.accepts ≡ b.accepts = pointwise_exact (pointwise event_eq.eq) (pointwise_exact event_eq.eq same_event) a.accepts b.accepts q.0 in
    let offers : a.offers ≡ b.offers = pointwise_exact (λ o p. event_eq.eq o.0 p.0 && node_eq.eq o.1 p.1) same_offer a.offers b.offers q.1 in
    λ i. record { ends = record { 0 = ends i }; accepts = accepts i; offers = offers i }

-- ---- a list with one more row
get-front : (ms : List Row) (r : Row) (i : ℕ) → i < length ms → slice_get (ms ++ r ∷ []) i ≡ slice_get ms i
get-front [] r i h = absurd (omega arith)
get-front (m ∷ ms) r zero h = refl
get-front (m ∷ ms) r (suc i) h = get-front ms r i (omega arith)

get-push_cases : (ms : List Row) (r m : Row) (i : ℕ) → slice_get (ms ++ r ∷ []) i ≡ Some m → (slice_get ms i ≡ Some m) ⊎ ((i ≡ length ms) × (r ≡ m))
get-push_cases [] r m zero e = inr (refl, same_Some r m e)
get-push_cases [] r m (suc i) e = inl e
get-push_cases (k ∷ ms) r m zero e = inl e
get-push_cases (k ∷ ms) r m (suc i) e = ⊎_elim (λ (h : slice_get ms i ≡ Some m). inl h) (λ (h : (i ≡ length ms) × (r ≡ m)). inr (ap suc h.0, h.1)) (get-push_cases ms r m i e)

any_there : (p : Row → Bool) (ms : List Row) (r : Row) (i : ℕ) → slice_get ms i ≡ Some r → p r ≡ true → list_any p ms ≡ true
any_there p [] r i e h = cc
any_there p (m ∷ ms) r zero e h = or_left (p m) (list_any p ms) (ap p (same_Some m r e) ∙ h)
any_there p (m ∷ ms) r (suc i) e h = or_right (p m) (list_any p ms) (any_there p ms r i e h)

-- what an insertion leaves
pub interned : {E : Row → Row → Bool} → IsEquivalence E → (ms ns : List Row) (r : Row) → ns ≡ cond (list_any (E r) ms) ms (ms ++ r ∷ []) → Interns ms ns r
interned {E} equivalence ms ns r e = ⊎_elim
    (λ (h : list_any (E r) ms ≡ true). inl (e ∙ ap (λ t. cond t ms (ms ++ r ∷ [])) h))
    (λ (h : list_any (E r) ms ≡ false). inr (e ∙ ap (λ t. cond t ms (ms ++ r ∷ [])) h, λ i there. both_ways _ h (any_there (E r) ms r i there (equivalence.refl r))))
    (cases_Bool (list_any (E r) ms))

-- each row that was there stays
pub record Holds (ms ns : List Row) : Type 0 where
  pub more : length ms ≤ length ns
  pub same : (i : ℕ) → i < length ms → slice_get ns i ≡ slice_get ms i

pub holds_refl : (ms : List Row) → Holds ms ms
holds_refl ms = record { more = omega arith; same = λ i h. refl }

pub holds_interned : (ms ns : List Row) (r : Row) → Interns ms ns r → Holds ms ns
holds_interned ms ns r = ⊎_elim
    (λ (e : ns ≡ ms). subst (Holds ms) (sym e) (holds_refl ms))
    (λ (w : (ns ≡ ms ++ r ∷ []) × ((i : ℕ) → slice_get ms i ≡ Some r → ⊥)). subst (Holds ms) (sym w.0) (record { more = omega (arith, length-append ms (r ∷ [])); same = get-front ms r }))

push_rows : (s : Store) (ms : List Row) (r : Row) → AreRows s ms → IsRow s (length ms) r → ((i : ℕ) → slice_get ms i ≡ Some r → ⊥) → AreRows s (ms ++ r ∷ [])
push_rows s ms r are is new = record {
  each = λ i m e. ⊎_elim
      (λ (h : slice_get ms i ≡ Some m). are.each i m h)
      (λ (h : (i ≡ length ms) × (r ≡ m)). subst (λ (n : ℕ). IsRow s n m) (sym h.0) (subst (IsRow s (length ms)) h.1 is))
      (get-push_cases ms r m i e);
  single = λ i j m e f. ⊎_elim
      (λ (h : slice_get ms i ≡ Some m). ⊎_elim
      (λ (k : slice_get ms j ≡ Some m). are.single i j m h k)
      (λ (k : (j ≡ length ms) × (r ≡ m)). absurd (new i (h ∙ ap Some (sym k.1))))
      (get-push_cases ms r m j f))
      (λ (h : (i ≡ length ms) × (r ≡ m)). ⊎_elim
      (λ (k : slice_get ms j ≡ Some m). absurd (new j (k ∙ ap Some (sym h.1))))
      (λ (k : (j ≡ length ms) × (r ≡ m)). h.0 ∙ sym k.0)
      (get-push_cases ms r m j f))
      (get-push_cases ms r m i e);
}

-- a row put into a table leaves a table
pub rows_interned : (s : Store) (ms ns : List Row) (r : Row) → AreRows s ms → IsRow s (length ms) r → Interns ms ns r → AreRows s ns
rows_interned s ms ns r are is = ⊎_elim
    (λ (e : ns ≡ ms). subst (AreRows s) (sym e) are)
    (λ (w : (ns ≡ ms ++ r ∷ []) × ((i : ℕ) → slice_get ms i ≡ Some r → ⊥)). subst (AreRows s) (sym w.0) (push_rows s ms r are is w.1))

-- a table stays one when the store grows
module _ (s t : Store) (k : Keeps s t) where
  row-keeps : (i : ℕ) (r : Row) → IsRow s i r → IsRow t i r
  row-keeps i r is = record {
    known = known-keeps s t k r.ends is.known;
    chain = is.chain;
    increasing = is.increasing;
    earlier = is.earlier;
    offered = is.offered;
    alive = λ none no_end. is.alive none (λ x h. sym (k.same r.ends x is.known) ∙ no_end x h);
  }

  pub rows-keeps : (rs : List Row) → AreRows s rs → AreRows t rs
  rows-keeps rs are = record { each = λ i r e. row-keeps i r (are.each i r e); single = are.single }

-- ---- offers
pub below_at : (i : ℕ) (offers : List (Event × NodeId)) (e : Event) (b : NodeId) → are_below i offers ≡ true → next_in offers e ≡ Some b → b.0 < i
below_at i [] e b h k = cc
below_at i (o ∷ offers) e b h k =
    let p = and_parts (nat_lt o.1.0 i) (are_below i offers) h in
    ⊎_elim
    (λ (t : eq_by_cmp event_cmp e o.0 ≡ true).
    let same : o.1 ≡ b = same_Some o.1 b (sym (ap (λ c. cond c (Some o.1) (next_in offers e)) t) ∙ k) in
    subst (λ (n : NodeId). n.0 < i) same (ltb-true o.1.0 i p.0))
    (λ (f : eq_by_cmp event_cmp e o.0 ≡ false). below_at i offers e b p.1 (sym (ap (λ c. cond c (Some o.1) (next_in offers e)) f) ∙ k))
    (cases_Bool (eq_by_cmp event_cmp e o.0))

pub none_above : (e : Event) (offers : List (Event × NodeId)) → list_all (λ o. is_lt (event_cmp e o.0)) offers ≡ true → next_in offers e ≡ None
none_above e [] h = refl
none_above e (o ∷ offers) h =
    let p = and_parts (is_lt (event_cmp e o.0)) (list_all (λ o. is_lt (event_cmp e o.0)) offers) h in
    ap (λ c. cond c (Some o.1) (next_in offers e)) (less-not_equal (event_cmp e o.0) p.0) ∙ none_above e offers p.1

pub next_here : (o : Event × NodeId) (offers : List (Event × NodeId)) → next_in (o ∷ offers) o.0 ≡ Some o.1
next_here o offers = ap (λ c. cond c (Some o.1) (next_in offers o.0)) (tied cmp_total o.0)

above_above : (e f : Event) (offers : List (Event × NodeId)) → is_lt (event_cmp e f) ≡ true → list_all (λ o. is_lt (event_cmp f o.0)) offers ≡ true → list_all (λ o. is_lt (event_cmp e o.0)) offers ≡ true
above_above e f offers h = all_more (λ o. is_lt (event_cmp f o.0)) (λ o. is_lt (event_cmp e o.0)) (λ o k. ap is_lt (cmp_total.trans e f o.0 (less_is (event_cmp e f) h) (less_is (event_cmp f o.0) k))) offers

same_rest : (x : Event) (n : NodeId) (xs ys : List (Event × NodeId)) → next_in xs x ≡ None → next_in ys x ≡ None
    → ((e : Event) → cond (eq_by_cmp event_cmp e x) (Some n) (next_in xs e) ≡ cond (eq_by_cmp event_cmp e x) (Some n) (next_in ys e)) → (e : Event) → next_in xs e ≡ next_in ys e
same_rest x n xs ys p q h e = ⊎_elim
    (λ (t : eq_by_cmp event_cmp e x ≡ true). ap (next_in xs) (tied_same cmp_total event_exact e x t) ∙ p ∙ sym q ∙ ap (next_in ys) (sym (tied_same cmp_total event_exact e x t)))
    (λ (f : eq_by_cmp event_cmp e x ≡ false). sym (ap (λ c. cond c (Some n) (next_in xs e)) f) ∙ h e ∙ ap (λ c. cond c (Some n) (next_in ys e)) f)
    (cases_Bool (eq_by_cmp event_cmp e x))

-- offers that increase strictly are determined by what they lead to
pub same_offers : (xs ys : List (Event × NodeId)) → strict offer_cmp xs ≡ true → strict offer_cmp ys ≡ true → ((e : Event) → next_in xs e ≡ next_in ys e) → xs ≡ ys
same_offers [] [] h k same = refl
same_offers [] (y ∷ ys) h k same = absurd (let e : None ≡ Some y.1 = same y.0 ∙ next_here y ys in cc)
same_offers (x ∷ xs) [] h k same = absurd (let e : None ≡ Some x.1 = sym (same x.0) ∙ next_here x xs in cc)
same_offers (x ∷ xs) (y ∷ ys) h k same = by (same_offers xs ys p.1 q.1) (event_cmp x.0 y.0) refl
  where
    p : (list_all (λ z. is_lt (event_cmp x.0 z.0)) xs ≡ true) × (strict offer_cmp xs ≡ true)
    p = and_parts (list_all (λ z. is_lt (event_cmp x.0 z.0)) xs) (strict offer_cmp xs) h

    q : (list_all (λ z. is_lt (event_cmp y.0 z.0)) ys ≡ true) × (strict offer_cmp ys ≡ true)
    q = and_parts (list_all (λ z. is_lt (event_cmp y.0 z.0)) ys) (strict offer_cmp ys) k

    by : (((e : Event) → next_in xs e ≡ next_in ys e) → xs ≡ ys) → (r : Ordering) → event_cmp x.0 y.0 ≡ r → x ∷ xs ≡ y ∷ ys
    by rest Less e =
        let less : is_lt (event_cmp x.0 y.0) ≡ true = ap is_lt e in
        let out : next_in (y ∷ ys) x.0 ≡ None = none_above x.0 (y ∷ ys) (and_from (is_lt (event_cmp x.0 y.0)) (list_all (λ z. is_lt (event_cmp x.0 z.0)) ys) less (above_above x.0 y.0 ys less q.0)) in
        absurd (let f : None ≡ Some x.1 = sym out ∙ sym (same x.0) ∙ next_here x xs in cc)
    by rest Equal e =
        let event : x.0 ≡ y.0 = event_exact x.0 y.0 e in
        let node : x.1 ≡ y.1 = same_Some x.1 y.1 (sym (next_here x xs) ∙ same x.0 ∙ ap (next_in (y ∷ ys)) event ∙ next_here y ys) in
        let tails : xs ≡ ys = rest (same_rest x.0 x.1 xs ys (none_above x.0 xs p.0) (ap (next_in ys) event ∙ none_above y.0 ys q.0)
        (λ f. same f ∙ (λ i. cond (eq_by_cmp event_cmp f (sym event i)) (Some (sym node i)) (next_in ys f)))) in
        λ i. (event i, node i) ∷ tails i
    by rest Greater e =
        let less : is_lt (event_cmp y.0 x.0) ≡ true = ap is_lt (cmp_total.antisymm y.0 x.0 ∙ ap ordering_reverse e) in
        let out : next_in (x ∷ xs) y.0 ≡ None = none_above y.0 (x ∷ xs) (and_from (is_lt (event_cmp y.0 x.0)) (list_all (λ z. is_lt (event_cmp y.0 z.0)) xs) less (above_above y.0 x.0 xs less p.0)) in
        absurd (let f : None ≡ Some y.1 = sym out ∙ same y.0 ∙ next_here y ys in cc)

-- ---- behaviours by the rows
pub goes_same : (o : Option NodeId) (f g : NodeId → Bool) → ((b : NodeId) → o ≡ Some b → f b ≡ g b) → goes_on o f ≡ goes_on o g
goes_same None f g h = refl
goes_same (Some b) f g h = h b refl

pub row_there : (rs : List Row) (a : NodeId) → a.0 < length rs → slice_get rs a.0 ≡ Some (row_at rs a)
row_there rs a h = slice_get-get_or rs a.0 no_row h

pub row_is : (rs : List Row) (a : NodeId) (r : Row) → slice_get rs a.0 ≡ Some r → row_at rs a ≡ r
row_is rs a r e = get_or_from_slice_get rs a.0 r no_row e

module _ (s : Store) (rs : List Row) (are : AreRows s rs) where
  pub is_row_at : (a : NodeId) → a.0 < length rs → IsRow s a.0 (row_at rs a)
  is_row_at a h = are.each a.0 (row_at rs a) (row_there rs a h)

  -- an offered node is an earlier one
  pub child_earlier : (a b : NodeId) (e : Event) → a.0 < length rs → next_in (row_at rs a).offers e ≡ Some b → b.0 < a.0
  child_earlier a b e h k = below_at a.0 (row_at rs a).offers e b (is_row_at a h).earlier k

  module _ (ns : List Row) (holds : Holds rs ns) where
    pub row-holds : (a : NodeId) → a.0 < length rs → row_at ns a ≡ row_at rs a
    row-holds a h = row_is ns a (row_at rs a) (holds.same a.0 h ∙ row_there rs a h)

    pub fails-holds : (t : List Event) (a : NodeId) (X : Event → Bool) → a.0 < length rs → node_fails ns a t X ≡ node_fails rs a t X
    unfolding node_fails
    fails-holds [] a X h = ap (λ r. refuses r.accepts X) (row-holds a h)
    fails-holds (e ∷ t) a X h = ap (λ r. goes_on (next_in r.offers e) (λ b. node_fails ns b t X)) (row-holds a h)
        ∙ goes_same (next_in (row_at rs a).offers e) (λ b. node_fails ns b t X) (λ b. node_fails rs b t X)
        (λ b k. let earlier : b.0 < a.0 = child_earlier a b e h k in fails-holds t b X (omega arith))

    pub ends-holds : (u : Store) → Keeps s u → (t : List Event) (a : NodeId) (x : ℕ) → a.0 < length rs → node_ends u ns a t x ≡ node_ends s rs a t x
    unfolding node_ends
    ends-holds u keeps [] a x h = ap (λ r. has u r.ends x) (row-holds a h) ∙ keeps.same (row_at rs a).ends x (is_row_at a h).known
    ends-holds u keeps (e ∷ t) a x h = ap (λ r. goes_on (next_in r.offers e) (λ b. node_ends u ns b t x)) (row-holds a h)
        ∙ goes_same (next_in (row_at rs a).offers e) (λ b. node_ends u ns b t x) (λ b. node_ends s rs b t x)
        (λ b k. let earlier : b.0 < a.0 = child_earlier a b e h k in ends-holds u keeps t b x (omega arith))
