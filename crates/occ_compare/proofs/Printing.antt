-- Events and sets of events in the order of printing.
use Rattle.std.proofs.Common.{◌≡◌, ◌⊎◌, ◌<◌, ◌+◌, ◌==◌, ◌||◌, ℕ, true, false, List, [], ◌∷◌, length, get_or, take, refl, sym, ap, ◌∙◌, subst, inl, inr, ⊎_elim, arith}
use Rattle.std.proofs.lemmas.Bool.{and_parts, and_from, or_cases, or_left, or_right, cases_Bool, both_ways, eqb-true, false≢true}
use Rattle.std.proofs.lemmas.List.Folds.{list_any_more}
use Rattle.std.proofs.lemmas.List.Kept.{IsStrictlySortedBy-dedup}
use Rattle.std.proofs.lemmas.List.MinMax.{ranks_by}
use Rattle.std.specs.List.{list_all, dedup, AllByRecursion}
use Rattle.std.specs.List.Sorted.{IsSorted, IsStrictlySortedBy, IsPermutation}
use Rattle.std.specs.Cmp.{IsTotalOrder, then_total, on_total, nat_cmp_total, nat_cmp_is, unsigned_ties, tied_itself}
use Rattle.std.specs.Cmp.Lexicographic.{slice_cmp, lists_total}
use Rattle.std.specs.Ordering.{is_lt, is_eq, eq_by_cmp, nat_cmp, ordering_then, ordering_reverse}
use Rattle.std.specs.declared.cmp.Ordering.{Ordering}
use Rattle.std.specs.declared.cmp.Ordering.TheVariants.{Less, Equal, Greater}
use Rattle.occ_syntax.specs.occ_base.declared.event.Dir.{Dir}
use Rattle.occ_syntax.specs.occ_base.declared.event.Dir.TheVariants.{Input, Output}
use Rattle.occ_syntax.specs.occ_base.declared.event.Event.{Event}
use Rattle.occ_syntax.specs.occ_base.declared.names.Name.{Name}
use Rattle.occ_syntax.specs.occ_base.contracts.event.EventPartialEq.TheImpl.{ghosts as event_eq}
use Rattle.occ_syntax.specs.declared.scope.Kind.{Kind}
use Rattle.occ_node.specs.occ_accept.Order.{event_cmp, dir_number, strict, is_in}
use Rattle.occ_node.specs.occ_accept.Accept.{in_set}
use Rattle.occ_node.proofs.from_accept.Strict.{IsExact, less_is, same_tests, tied, tied_same, any_same, above-not_in, above-above, same_strict}
use Rattle.occ_node.proofs.from_accept.Events.{cmp_total, event_exact, eq_is, sets_total, set_exact}
use Rattle.occ_node.proofs.from_accept.Sets.{gathered}
use Rattle.occ_behaviour.specs.Places.{place_in}
use Rattle.occ_compare.specs.Orders.{print_cmp, list_cmp, set_cmp, IsListOf, has_set}
use Rattle.occ_compare.specs.Walk.{IsLeastSet}
use Rattle.occ_compare.specs.Steps.{AllIn, IsLeastOnly}

-- ---- orders
then_equal : (r s : Ordering) → is_eq (ordering_then r s) ≡ true → (is_eq r ≡ true) × (is_eq s ≡ true)
then_equal Less s e = absurd (false≢true e)
then_equal Equal s e = (refl, e)
then_equal Greater s e = absurd (false≢true e)

dir_exact : (d e : Dir) → (dir_number d == dir_number e) ≡ true → d ≡ e
dir_exact Input Input h = refl
dir_exact Input Output h = absurd (false≢true h)
dir_exact Output Input h = absurd (false≢true h)
dir_exact Output Output h = refl

not_less : {A : Type 0} {R : A → A → Ordering} → IsTotalOrder R → (x : A) → is_lt (R x x) ≡ true → ⊥
not_less o x h = false≢true (sym (ap is_lt (tied_itself o x)) ∙ h)

-- what is before x is before what isn't before x
pub before_more : {A : Type 0} {R : A → A → Ordering} → IsTotalOrder R → (w x y : A) → is_lt (R w x) ≡ true → is_lt (R y x) ≡ false → is_lt (R w y) ≡ true
before_more {A} {R} o w x y h k = ⊎_elim
    (λ (t : is_lt (R w y) ≡ true). t)
    (λ (f : is_lt (R w y) ≡ false). absurd (both_ways (is_lt (R w x)) ((ranks_by o (λ (a : A). a)).chain w y x f k) h))
    (cases_Bool (is_lt (R w y)))

-- a strict list within another is shorter, or the same
within_same : {A : Type 0} {R : A → A → Ordering} → IsTotalOrder R → IsExact R → (x : A) (xs ys : List A) → list_all (λ z. is_lt (R x z)) xs ≡ true
    → ((e : A) → (eq_by_cmp R e x || is_in R xs e) ≡ true → (eq_by_cmp R e x || is_in R ys e) ≡ true) → (e : A) → is_in R xs e ≡ true → is_in R ys e ≡ true
within_same {A} {R} o exact x xs ys above h e k = ⊎_elim
    (λ (t : eq_by_cmp R e x ≡ true). absurd (both_ways (is_in R xs x) (above-not_in o x xs above) (subst (λ (z : A). is_in R xs z ≡ true) (tied_same o exact e x t) k)))
    (λ (t : is_in R ys e ≡ true). t)
    (or_cases (eq_by_cmp R e x) (is_in R ys e) (h e (or_right (eq_by_cmp R e x) (is_in R xs e) k)))

within_rest : {A : Type 0} {R : A → A → Ordering} → IsTotalOrder R → IsExact R → (y : A) (xs ys : List A) → list_all (λ z. is_lt (R y z)) xs ≡ true
    → ((e : A) → is_in R xs e ≡ true → (eq_by_cmp R e y || is_in R ys e) ≡ true) → (e : A) → is_in R xs e ≡ true → is_in R ys e ≡ true
within_rest {A} {R} o exact y xs ys above h e k = ⊎_elim
    (λ (t : eq_by_cmp R e y ≡ true). absurd (both_ways (is_in R xs y) (above-not_in o y xs above) (subst (λ (z : A). is_in R xs z ≡ true) (tied_same o exact e y t) k)))
    (λ (t : is_in R ys e ≡ true). t)
    (or_cases (eq_by_cmp R e y) (is_in R ys e) (h e k))

abbrev Fits : {A : Type 0} → List A → List A → Type 0
Fits xs ys = (length xs < length ys) ⊎ (xs ≡ ys)

fits_more : {A : Type 0} (x y : A) (xs ys : List A) → x ≡ y → Fits xs ys → Fits (x ∷ xs) (y ∷ ys)
fits_more {A} x y xs ys e = ⊎_elim
    (λ (h : length xs < length ys). inl (omega arith))
    (λ (h : xs ≡ ys). inr (λ i. e i ∷ h i))

fits_longer : {A : Type 0} (y : A) (xs ys : List A) → Fits xs ys → Fits xs (y ∷ ys)
fits_longer {A} y xs ys = ⊎_elim
    (λ (h : length xs < length ys). inl (omega arith))
    (λ (h : xs ≡ ys). inl (omega (arith, ap length h)))

fits : {A : Type 0} {R : A → A → Ordering} → IsTotalOrder R → IsExact R → (ys xs : List A) → strict R xs ≡ true → strict R ys ≡ true
    → ((e : A) → is_in R xs e ≡ true → is_in R ys e ≡ true) → Fits xs ys
fits {A} {R} o exact [] [] p q h = inr refl
fits {A} {R} o exact [] (x ∷ xs) p q h = absurd (false≢true (h x (or_left (eq_by_cmp R x x) (is_in R xs x) (tied o x))))
fits {A} {R} o exact (y ∷ ys) [] p q h = inl (omega arith)
fits {A} {R} o exact (y ∷ ys) (x ∷ xs) p q h = by (fits o exact ys xs) (fits o exact ys (x ∷ xs)) (R x y) refl
  where
    k : (list_all (λ z. is_lt (R x z)) xs ≡ true) × (strict R xs ≡ true)
    k = and_parts (list_all (λ z. is_lt (R x z)) xs) (strict R xs) p

    m : (list_all (λ z. is_lt (R y z)) ys ≡ true) × (strict R ys ≡ true)
    m = and_parts (list_all (λ z. is_lt (R y z)) ys) (strict R ys) q

    by : (strict R xs ≡ true → strict R ys ≡ true → ((e : A) → is_in R xs e ≡ true → is_in R ys e ≡ true) → Fits xs ys)
        → (strict R (x ∷ xs) ≡ true → strict R ys ≡ true → ((e : A) → is_in R (x ∷ xs) e ≡ true → is_in R ys e ≡ true) → Fits (x ∷ xs) ys)
        → (r : Ordering) → R x y ≡ r → Fits (x ∷ xs) (y ∷ ys)
    by both longer Less e =
        let less : is_lt (R x y) ≡ true = ap is_lt e in
        let out : is_in R (y ∷ ys) x ≡ false = above-not_in o x (y ∷ ys) (and_from (is_lt (R x y)) (list_all (λ z. is_lt (R x z)) ys) less (above-above o x y ys less m.0)) in
        absurd (both_ways (is_in R (y ∷ ys) x) out (h x (or_left (eq_by_cmp R x x) (is_in R xs x) (tied o x))))
    by both longer Equal e =
        let same : x ≡ y = exact x y e in
        fits_more x y xs ys same (both k.1 m.1 (within_same o exact x xs ys k.0 (λ f t. subst (λ (z : A). (eq_by_cmp R f z || is_in R ys f) ≡ true) (sym same) (h f t))))
    by both longer Greater e =
        let less : is_lt (R y x) ≡ true = ap is_lt (o.antisymm y x ∙ ap ordering_reverse e) in
        let above : list_all (λ z. is_lt (R y z)) (x ∷ xs) ≡ true = and_from (is_lt (R y x)) (list_all (λ z. is_lt (R y z)) xs) less (above-above o y x xs less k.0) in
        fits_longer y (x ∷ xs) ys (longer p m.1 (within_rest o exact y (x ∷ xs) ys above h))

all_less : {A : Type 0} (R : A → A → Ordering) (x : A) (xs : List A) → AllByRecursion (λ y. R x y ≡ Less) xs → list_all (λ y. is_lt (R x y)) xs ≡ true
all_less R x [] h = refl
all_less R x (y ∷ ys) h = and_from (is_lt (R x y)) (list_all (λ y. is_lt (R x y)) ys) (ap is_lt h.0) (all_less R x ys h.1)

strict_from : {A : Type 0} (R : A → A → Ordering) (xs : List A) → IsStrictlySortedBy R xs → strict R xs ≡ true
unfolding IsStrictlySortedBy
strict_from R [] h = refl
strict_from R (x ∷ xs) h = and_from (list_all (λ y. is_lt (R x y)) xs) (strict R xs) (all_less R x xs h.0) (strict_from R xs h.1)

-- ---- the order of printing
module _ (ps : List (Name × Kind)) where
  pub print_total : IsTotalOrder (print_cmp ps)
  print_total = then_total (on_total (λ e. place_in ps e.chan) nat_cmp_total) (then_total (on_total (λ e. e.value) nat_cmp_total) (then_total (on_total (λ e. dir_number e.dir) nat_cmp_total) (on_total (λ e. e.chan.0) nat_cmp_total)))

  pub print_exact : IsExact (print_cmp ps)
  print_exact e f h =
      let p = then_equal (nat_cmp (place_in ps e.chan) (place_in ps f.chan)) (ordering_then (nat_cmp e.value f.value) (ordering_then (nat_cmp (dir_number e.dir) (dir_number f.dir)) (nat_cmp e.chan.0 f.chan.0))) (ap is_eq h) in
      let q = then_equal (nat_cmp e.value f.value) (ordering_then (nat_cmp (dir_number e.dir) (dir_number f.dir)) (nat_cmp e.chan.0 f.chan.0)) p.1 in
      let r = then_equal (nat_cmp (dir_number e.dir) (dir_number f.dir)) (nat_cmp e.chan.0 f.chan.0) q.1 in
      let value : e.value ≡ f.value = eqb-true e.value f.value (unsigned_ties e.value f.value ∙ q.0) in
      let dir : e.dir ≡ f.dir = dir_exact e.dir f.dir (unsigned_ties (dir_number e.dir) (dir_number f.dir) ∙ r.0) in
      let chan : e.chan.0 ≡ f.chan.0 = eqb-true e.chan.0 f.chan.0 (unsigned_ties e.chan.0 f.chan.0 ∙ r.1) in
      λ i. record { chan = record { 0 = chan i }; dir = dir i; value = value i }

  ties_are : (e f : Event) → eq_by_cmp event_cmp e f ≡ eq_by_cmp (print_cmp ps) e f
  ties_are e f = same_tests (eq_by_cmp event_cmp e f) (eq_by_cmp (print_cmp ps) e f)
      (λ h. subst (λ (g : Event). eq_by_cmp (print_cmp ps) e g ≡ true) (tied_same cmp_total event_exact e f h) (tied print_total e))
      (λ h. subst (λ (g : Event). eq_by_cmp event_cmp e g ≡ true) (tied_same print_total print_exact e f h) (tied cmp_total e))

  eq_printed : (e f : Event) → event_eq.eq e f ≡ eq_by_cmp (print_cmp ps) e f
  eq_printed e f = eq_is e f ∙ ties_are e f

  pub in_printed : (list : List Event) (e : Event) → in_set list e ≡ is_in (print_cmp ps) list e
  in_printed list e = any_same (eq_by_cmp event_cmp e) (eq_by_cmp (print_cmp ps) e) (λ f. ties_are e f) list

  pub sets_order : IsTotalOrder (set_cmp ps)
  sets_order = then_total (on_total (λ list. length list) nat_cmp_total) (lists_total print_total)

  -- what sorting and leaving out what stands twice gives
  pub ordered : (events ys zs : List Event) → IsPermutation events ys → IsSorted (print_cmp ps) ys → zs ≡ dedup event_eq.eq ys → IsListOf ps events zs
  ordered events ys zs moved sorted is = record {
    increasing = strict_from (print_cmp ps) zs (subst (IsStrictlySortedBy (print_cmp ps)) (sym is) (IsStrictlySortedBy-dedup print_total eq_printed ys sorted));
    members = gathered events ys zs moved is;
  }

  -- one set has one list
  pub one_list : (set l k : List Event) → IsListOf ps set l → IsListOf ps set k → l ≡ k
  one_list set l k p q = same_strict print_total print_exact l k p.increasing q.increasing
      (λ e. sym (in_printed l e) ∙ p.members e ∙ sym (q.members e) ∙ in_printed k e)

  -- sets of one list are one set
  pub one_set : (s t l : List Event) → strict event_cmp s ≡ true → strict event_cmp t ≡ true → IsListOf ps s l → IsListOf ps t l → s ≡ t
  one_set s t l p q h k = same_strict cmp_total event_exact s t p q (λ e. sym (h.members e) ∙ k.members e)

  -- the list of a part goes before the list of the whole, or is that list
  pub part_before : (s t k l : List Event) → IsListOf ps s k → IsListOf ps t l → ((e : Event) → in_set t e ≡ true → in_set s e ≡ true) → (is_lt (set_cmp ps l k) ≡ true) ⊎ (l ≡ k)
  part_before s t k l p q h = ⊎_elim
      (λ (n : length l < length k). inl (ap (λ r. is_lt (ordering_then r (list_cmp ps l k))) (sym (nat_cmp_is (length l) (length k) Less n))))
      (λ (n : l ≡ k). inr n)
      (fits print_total print_exact k l q.increasing p.increasing (λ e m. sym (in_printed k e) ∙ p.members e ∙ h e (sym (q.members e) ∙ in_printed l e ∙ m)))

  -- ---- the least of the sets that only one has
  has_more : (sets : List (List Event)) (i : ℕ) (x t : List Event) → i < length sets → x ≡ get_or sets i x → has_set (take (i + 1) sets) t ≡ (has_set (take i sets) t || eq_by_cmp (slice_cmp event_cmp) t x)
  has_more sets i x t h is = list_any_more (eq_by_cmp (slice_cmp event_cmp) t) sets i x h ∙ ap (λ y. has_set (take i sets) t || eq_by_cmp (slice_cmp event_cmp) t y) (sym is)

  has_cases : (sets : List (List Event)) (i : ℕ) (x t : List Event) → i < length sets → x ≡ get_or sets i x → has_set (take (i + 1) sets) t ≡ true → (has_set (take i sets) t ≡ true) ⊎ (t ≡ x)
  has_cases sets i x t h is k = ⊎_elim
      (λ (m : has_set (take i sets) t ≡ true). inl m)
      (λ (m : eq_by_cmp (slice_cmp event_cmp) t x ≡ true). inr (tied_same sets_total set_exact t x m))
      (or_cases (has_set (take i sets) t) (eq_by_cmp (slice_cmp event_cmp) t x) (sym (has_more sets i x t h is) ∙ k))

  has_here : (sets : List (List Event)) (i : ℕ) (x : List Event) → i < length sets → x ≡ get_or sets i x → has_set (take (i + 1) sets) x ≡ true
  has_here sets i x h is = has_more sets i x x h is ∙ or_right (has_set (take i sets) x) (eq_by_cmp (slice_cmp event_cmp) x x) (tied sets_total x)

  has_still : (sets : List (List Event)) (i : ℕ) (x t : List Event) → i < length sets → x ≡ get_or sets i x → has_set (take i sets) t ≡ true → has_set (take (i + 1) sets) t ≡ true
  has_still sets i x t h is k = has_more sets i x t h is ∙ or_left (has_set (take i sets) t) (eq_by_cmp (slice_cmp event_cmp) t x) k

  module _ (sets other : List (List Event)) (i : ℕ) (x : List Event) (h : i < length sets) (is : x ≡ get_or sets i x) where
    -- a set that the other has too
    pub kept_none : has_set other x ≡ true → AllIn (take i sets) other → AllIn (take (i + 1) sets) other
    kept_none there all t k = ⊎_elim
        (λ (m : has_set (take i sets) t ≡ true). all t m)
        (λ (m : t ≡ x). ap (has_set other) m ∙ there)
        (has_cases sets i x t h is k)

    pub kept_some : (list : List Event) → has_set other x ≡ true → IsLeastOnly ps (take i sets) other list → IsLeastOnly ps (take (i + 1) sets) other list
    kept_some list there least = record {
      set = least.set;
      own = has_still sets i x least.set h is least.own;
      other = least.other;
      listed = least.listed;
      before = λ t l listed less k. ⊎_elim
          (λ (m : has_set (take i sets) t ≡ true). least.before t l listed less m)
          (λ (m : t ≡ x). ap (has_set other) m ∙ there)
          (has_cases sets i x t h is k);
    }

    -- a set that the other hasn't, with its list
    pub first_some : (list : List Event) → has_set other x ≡ false → IsListOf ps x list → AllIn (take i sets) other → IsLeastOnly ps (take (i + 1) sets) other list
    first_some list not_there is_listed all = record {
      set = x;
      own = has_here sets i x h is;
      other = not_there;
      listed = is_listed;
      before = λ t l is_list less k. ⊎_elim
          (λ (m : has_set (take i sets) t ≡ true). all t m)
          (λ (m : t ≡ x). absurd (not_less sets_order list (subst (λ (z : List Event). is_lt (set_cmp ps z list) ≡ true) (one_list x l list (subst (λ (s : List Event). IsListOf ps s l) m is_list) is_listed) less)))
          (has_cases sets i x t h is k);
    }

    pub less_some : (best list : List Event) → has_set other x ≡ false → IsListOf ps x list → is_lt (set_cmp ps list best) ≡ true → IsLeastOnly ps (take i sets) other best → IsLeastOnly ps (take (i + 1) sets) other list
    less_some best list not_there is_listed smaller least = record {
      set = x;
      own = has_here sets i x h is;
      other = not_there;
      listed = is_listed;
      before = λ t l is_list less k. ⊎_elim
          (λ (m : has_set (take i sets) t ≡ true). least.before t l is_list (less_trans l list best less smaller) m)
          (λ (m : t ≡ x). absurd (not_less sets_order list (subst (λ (z : List Event). is_lt (set_cmp ps z list) ≡ true) (one_list x l list (subst (λ (s : List Event). IsListOf ps s l) m is_list) is_listed) less)))
          (has_cases sets i x t h is k);
    }
      where
        less_trans : (u v w : List Event) → is_lt (set_cmp ps u v) ≡ true → is_lt (set_cmp ps v w) ≡ true → is_lt (set_cmp ps u w) ≡ true
        less_trans u v w a b = ap is_lt (sets_order.trans u v w (less_is (set_cmp ps u v) a) (less_is (set_cmp ps v w) b))

    pub more_some : (best list : List Event) → has_set other x ≡ false → IsListOf ps x list → is_lt (set_cmp ps list best) ≡ false → IsLeastOnly ps (take i sets) other best → IsLeastOnly ps (take (i + 1) sets) other best
    more_some best list not_there is_listed larger least = record {
      set = least.set;
      own = has_still sets i x least.set h is least.own;
      other = least.other;
      listed = least.listed;
      before = λ t l is_list less k. ⊎_elim
          (λ (m : has_set (take i sets) t ≡ true). least.before t l is_list less m)
          (λ (m : t ≡ x). absurd (both_ways (is_lt (set_cmp ps list best)) larger (subst (λ (z : List Event). is_lt (set_cmp ps z best) ≡ true) (one_list x l list (subst (λ (s : List Event). IsListOf ps s l) m is_list) is_listed) less)))
          (has_cases sets i x t h is k);
    }

  -- ---- of two rows

  -- the one row has the least set of all
  pub of_one : (own other : List (List Event)) (list : List Event) (least : IsLeastOnly ps own other list)
      → ((t l : List Event) → IsListOf ps t l → is_lt (set_cmp ps l list) ≡ true → has_set other t ≡ true → has_set own t ≡ true) → IsLeastSet ps own other least.set list
  of_one own other list least back = record {
    own = least.own;
    other = least.other;
    listed = least.listed;
    before = λ t l listed less. same_tests (has_set own t) (has_set other t) (least.before t l listed less) (back t l listed less);
  }

  pub of_two : (own other : List (List Event)) (list more : List Event) (least : IsLeastOnly ps own other list) → IsLeastOnly ps other own more → is_lt (set_cmp ps more list) ≡ false → IsLeastSet ps own other least.set list
  of_two own other list more least rest larger = of_one own other list least (λ t l listed less. rest.before t l listed (before_more sets_order l list more less larger))

  pub turned_set : (a b : List Event) → is_lt (set_cmp ps a b) ≡ true → is_lt (set_cmp ps b a) ≡ false
  turned_set a b h = (ranks_by sets_order (λ (list : List Event). list)).one_way a b h
