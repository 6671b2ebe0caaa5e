-- Steps of the loops.
use Rattle.std.proofs.Common.{◌≡◌, ◌⊎◌, ◌<◌, ◌≤◌, ◌+◌, ◌^◌, ◌==◌, ◌||◌, ◌&&◌, ◌++◌, ℕ, zero, suc, Bool, true, false, not, cond, List, [], ◌∷◌, Option, Some, None, MatchOption, length, get_or, take, drop, is_some, refl, sym, ap, ◌∙◌, subst, inl, inr, ⊎_elim, arith}
use Rattle.std.proofs.Math.Nat.{mod-eq_of_lt}
use Rattle.std.proofs.lemmas.Bool.{and_parts, or_cases, or_left, cases_Bool, both_ways, eqb-true, eq-eqb, false≢true}
use Rattle.std.proofs.lemmas.List.Folds.{list_any_more}
use Rattle.std.proofs.lemmas.List.MinMax.{ranks_by}
use Rattle.std.specs.List.{list_all, list_any}
use Rattle.std.specs.Cmp.{nat_cmp_is, ranked}
use Rattle.std.specs.Cmp.Lexicographic.{slice_cmp}
use Rattle.std.specs.Ordering.{is_lt, eq_by_cmp, nat_cmp, MatchOrdering}
use Rattle.std.specs.declared.cmp.Ordering.{Ordering}
use Rattle.std.specs.declared.cmp.Ordering.TheVariants.{Less, Equal, Greater}
use Rattle.occ_syntax.specs.occ_base.declared.event.Event.{Event}
use Rattle.occ_syntax.specs.occ_base.declared.names.Name.{Name}
use Rattle.occ_syntax.specs.declared.scope.Kind.{Kind}
use Rattle.occ_syntax.specs.Counts.{bits_of_scope}
use Rattle.occ_behaviour.specs.declared.behaviour.Side.{Side}
use Rattle.occ_behaviour.specs.declared.behaviour.Side.TheVariants.{First, Second}
use Rattle.occ_bits.specs.occ_dd.Store.{has}
use Rattle.occ_bits.specs.occ_dd.declared.set.SetId.{SetId}
use Rattle.occ_bits.specs.occ_dd.declared.store.Store.{Store}
use Rattle.occ_node.specs.occ_mdd.Maps.{value}
use Rattle.occ_node.specs.occ_mdd.declared.map.MapId.{MapId}
use Rattle.occ_node.specs.occ_accept.Order.{event_cmp, strict}
use Rattle.occ_node.specs.occ_accept.Accept.{in_set}
use Rattle.occ_node.proofs.from_accept.Strict.{tied, tied_same, less-not_equal, all_at}
use Rattle.occ_node.proofs.from_accept.Sets.{in_either}
use Rattle.occ_node.proofs.from_accept.Events.{cmp_total, event_exact}
use Rattle.occ_node.specs.Offers.{next_in, is_offered}
use Rattle.occ_node.specs.declared.node.NodeId.{NodeId}
use Rattle.occ_node.specs.declared.world.World.{World}
use Rattle.occ_compare.specs.Places.{assignment_at, number_in}
use Rattle.occ_compare.specs.Orders.{print_cmp, set_cmp, IsListOf, has_set}
use Rattle.occ_compare.specs.Walk.{picked, opposite, is_before, SameEnds, IsLeastEnd, IsLeastSet}
use Rattle.occ_compare.specs.declared.offers.Level.{Level}
use Rattle.occ_compare.specs.declared.offers.Level.TheVariants.{Events, Nodes}
use Rattle.occ_compare.specs.Steps.{IsSide, Tells, IsLeastStart, same_node, same_test, differ, DifferNowhere, IsLeastDiffering, AllIn, IsLeastOnly}
use Rattle.occ_compare.proofs.Numbers.{small, below, again, back, less}
use Rattle.occ_compare.proofs.Printing.{print_total, print_exact, in_printed, kept_none, kept_some, first_some, less_some, more_some, of_two}

-- ---- lists of events by their first difference

suc_rank : (n m : ℕ) (r : Ordering) → MatchOrdering r (n < m) (n ≡ m) (m < n) → MatchOrdering r (suc n < suc m) (suc n ≡ suc m) (suc m < suc n)
suc_rank n m Less h = omega (arith, h)
suc_rank n m Equal h = ap suc h
suc_rank n m Greater h = omega (arith, h)

suc_cmp : (n m : ℕ) → nat_cmp n m ≡ nat_cmp (suc n) (suc m)
suc_cmp n m = nat_cmp_is (suc n) (suc m) (nat_cmp n m) (suc_rank n m (nat_cmp n m) (ranked n m (nat_cmp n m) refl))

module _ {A : Type 0} (R : A → A → Ordering) where
  short_order : (xs ys : List A) → (length xs ≡ 0) ⊎ (length ys ≡ 0) → slice_cmp R xs ys ≡ nat_cmp (length xs) (length ys)
  short_order [] [] h = refl
  short_order [] (y ∷ ys) h = nat_cmp_is 0 (suc (length ys)) Less (omega arith)
  short_order (x ∷ xs) [] h = nat_cmp_is (suc (length xs)) 0 Greater (omega arith)
  short_order (x ∷ xs) (y ∷ ys) h = absurd (⊎_elim (λ (k : suc (length xs) ≡ 0). omega (arith, k)) (λ (k : suc (length ys) ≡ 0). omega (arith, k)) h)

  -- where one list ends the lengths decide
  pub end_order : (k : ℕ) (xs ys : List A) → k ≤ length xs → k ≤ length ys → (length xs ≤ k) ⊎ (length ys ≤ k) → slice_cmp R (drop k xs) (drop k ys) ≡ nat_cmp (length xs) (length ys)
  end_order zero xs ys h m e = short_order xs ys (⊎_elim (λ (d : length xs ≤ 0). inl (omega (arith, d))) (λ (d : length ys ≤ 0). inr (omega (arith, d))) e)
  end_order (suc k) [] ys h m e = absurd (omega (arith, h))
  end_order (suc k) (x ∷ xs) [] h m e = absurd (omega (arith, m))
  end_order (suc k) (x ∷ xs) (y ∷ ys) h m e =
      end_order k xs ys (omega (arith, h)) (omega (arith, m)) (⊎_elim (λ (d : suc (length xs) ≤ suc k). inl (omega (arith, d))) (λ (d : suc (length ys) ≤ suc k). inr (omega (arith, d))) e) ∙ suc_cmp (length xs) (length ys)

-- ---- the events of offers
offered_first : (o : Event × NodeId) (offers : List (Event × NodeId)) (e : Event) → is_offered (o ∷ offers) e ≡ (eq_by_cmp event_cmp e o.0 || is_offered offers e)
offered_first o offers e = ⊎_elim
    (λ (t : eq_by_cmp event_cmp e o.0 ≡ true). ap (λ c. is_some (cond c (Some o.1) (next_in offers e))) t ∙ sym (ap (λ c. c || is_offered offers e) t))
    (λ (f : eq_by_cmp event_cmp e o.0 ≡ false). ap (λ c. is_some (cond c (Some o.1) (next_in offers e))) f ∙ sym (ap (λ c. c || is_offered offers e) f))
    (cases_Bool (eq_by_cmp event_cmp e o.0))

offered_any : (offers : List (Event × NodeId)) (e : Event) → is_offered offers e ≡ list_any (λ o. eq_by_cmp event_cmp e o.0) offers
offered_any [] e = refl
offered_any (o ∷ offers) e = offered_first o offers e ∙ ap (λ b. eq_by_cmp event_cmp e o.0 || b) (offered_any offers e)

offered_more : (offers : List (Event × NodeId)) (i : ℕ) (d : Event × NodeId) (e : Event) → i < length offers → is_offered (take (i + 1) offers) e ≡ (is_offered (take i offers) e || eq_by_cmp event_cmp e (get_or offers i d).0)
offered_more offers i d e h = offered_any (take (i + 1) offers) e ∙ list_any_more (λ p. eq_by_cmp event_cmp e p.0) offers i d h
    ∙ ap (λ b. b || eq_by_cmp event_cmp e (get_or offers i d).0) (sym (offered_any (take i offers) e))

put_in : (a b t e : Bool) → (e ≡ true → t ≡ true) → ((a || (b && t)) || e) ≡ (a || ((b || e) && t))
put_in true b t e h = refl
put_in false true true e h = refl
put_in false true false true h = absurd (false≢true (h refl))
put_in false true false false h = refl
put_in false false t true h = sym (h refl)
put_in false false t false h = refl

left_out : (a b t e : Bool) → (e ≡ true → t ≡ false) → (a || (b && t)) ≡ (a || ((b || e) && t))
left_out true b t e h = refl
left_out false true t e h = refl
left_out false false t true h = sym (h refl)
left_out false false t false h = refl

-- an offer that passes a test is added, and one that doesn't is left out
module _ (test : Event → Bool) (old : List Event) (offers : List (Event × NodeId)) (i : ℕ) (d : Event × NodeId) (h : i < length offers) where
  abbrev SoFar : ℕ → List Event → Type 0
  SoFar k events = (e : Event) → in_set events e ≡ (in_set old e || (is_offered (take k offers) e && test e))

  pub more_added : (events new : List Event) → new ≡ events ++ (get_or offers i d).0 ∷ [] → test (get_or offers i d).0 ≡ true → SoFar i events → SoFar (i + 1) new
  more_added events new add passes so_far e =
      let last : in_set ((get_or offers i d).0 ∷ []) e ≡ eq_by_cmp event_cmp e (get_or offers i d).0 = or_none (eq_by_cmp event_cmp e (get_or offers i d).0) in
      ap (λ l. in_set l e) add ∙ in_either events ((get_or offers i d).0 ∷ []) e ∙ (λ j. so_far e j || last j)
      ∙ put_in (in_set old e) (is_offered (take i offers) e) (test e) (eq_by_cmp event_cmp e (get_or offers i d).0) (λ t. ap test (tied_same cmp_total event_exact e (get_or offers i d).0 t) ∙ passes)
      ∙ ap (λ b. in_set old e || (b && test e)) (sym (offered_more offers i d e h))
    where
      or_none : (b : Bool) → (b || false) ≡ b
      or_none true = refl
      or_none false = refl

  pub more_left : (events : List Event) → test (get_or offers i d).0 ≡ false → SoFar i events → SoFar (i + 1) events
  more_left events fails so_far e = so_far e
      ∙ left_out (in_set old e) (is_offered (take i offers) e) (test e) (eq_by_cmp event_cmp e (get_or offers i d).0) (λ t. ap test (tied_same cmp_total event_exact e (get_or offers i d).0 t) ∙ fails)
      ∙ ap (λ b. in_set old e || (b && test e)) (sym (offered_more offers i d e h))

-- ---- the least event at which rows differ
pub not_offered : (level : Level) (p q : List (Event × NodeId)) (e : Event) → next_in p e ≡ None → next_in q e ≡ None → differ level p q e ≡ false
not_offered Events p q e h k = λ i. not (same_test (is_some (h i)) (is_some (k i)))
not_offered Nodes p q e h k = λ i. not (same_node (h i) (k i))

offered_somewhere : (level : Level) (p q : List (Event × NodeId)) (e : Event) → differ level p q e ≡ true → (o r : Option NodeId) → next_in p e ≡ o → next_in q e ≡ r → (is_some o || is_some r) ≡ true
offered_somewhere level p q e d None None h k = absurd (both_ways (differ level p q e) (not_offered level p q e h k) d)
offered_somewhere level p q e d None (Some c) h k = refl
offered_somewhere level p q e d (Some c) r h k = refl

or_both : (a b d : Bool) → d ≡ true → (a || b) ≡ true → ((false || (a && d)) || (b && d)) ≡ true
or_both true b d h k = ap (λ c. c || (b && d)) h
or_both false true d h k = h
or_both false false d h k = absurd (false≢true k)

from_both : (a b d : Bool) → ((false || (a && d)) || (b && d)) ≡ true → d ≡ true
from_both true b true h = refl
from_both true true false h = h
from_both true false false h = h
from_both false true d h = h
from_both false false d h = absurd (false≢true h)

module _ (ps : List (Name × Kind)) (level : Level) (p q : List (Event × NodeId)) (events list : List Event)
    (members : (e : Event) → in_set events e ≡ ((false || (is_offered p e && differ level p q e)) || (is_offered q e && differ level p q e))) (listed : IsListOf ps events list) where
  in_list : (e : Event) → differ level p q e ≡ true → in_set list e ≡ true
  in_list e d = listed.members e ∙ members e ∙ or_both (is_offered p e) (is_offered q e) (differ level p q e) d (offered_somewhere level p q e d (next_in p e) (next_in q e) refl refl)

  list_in : (e : Event) → in_set list e ≡ true → differ level p q e ≡ true
  list_in e h = from_both (is_offered p e) (is_offered q e) (differ level p q e) (sym (members e) ∙ sym (listed.members e) ∙ h)

  false_from : (b : Bool) → (b ≡ true → ⊥) → b ≡ false
  false_from true h = absurd (h refl)
  false_from false h = refl

  pub none_differing : list ≡ [] → DifferNowhere level p q
  none_differing none e = false_from (differ level p q e) (λ d. both_ways (in_set list e) (ap (λ l. in_set l e) none) (in_list e d))

  pub first_differing : (x : Event) (xs : List Event) → list ≡ x ∷ xs → IsLeastDiffering ps level p q x
  first_differing x xs is = record {
    differs = list_in x (ap (λ l. in_set l x) is ∙ or_left (eq_by_cmp event_cmp x x) (in_set xs x) (tied cmp_total x));
    before = λ f less. false_from (differ level p q f) (λ d. ⊎_elim
        (λ (t : eq_by_cmp event_cmp f x ≡ true). not_less f x less t)
        (λ (t : in_set xs f ≡ true). both_ways (is_lt (print_cmp ps f x)) (turned f (all_at (print_total ps) (print_exact ps) (λ y. is_lt (print_cmp ps x y)) xs f above (sym (in_printed ps xs f) ∙ t))) less)
        (or_cases (eq_by_cmp event_cmp f x) (in_set xs f) (sym (ap (λ l. in_set l f) is) ∙ in_list f d)));
  }
    where
      above : list_all (λ y. is_lt (print_cmp ps x y)) xs ≡ true
      above = (and_parts (list_all (λ y. is_lt (print_cmp ps x y)) xs) (strict (print_cmp ps) xs) (sym (ap (strict (print_cmp ps)) is) ∙ listed.increasing)).0

      not_less : (f x : Event) → is_lt (print_cmp ps f x) ≡ true → eq_by_cmp event_cmp f x ≡ true → ⊥
      not_less f x less t =
          let one : f ≡ x = tied_same cmp_total event_exact f x t in
          false≢true (sym (less-not_equal (print_cmp ps f x) less) ∙ subst (λ (z : Event). eq_by_cmp (print_cmp ps) f z ≡ true) one (tied (print_total ps) f))

      turned : (f : Event) → is_lt (print_cmp ps x f) ≡ true → is_lt (print_cmp ps f x) ≡ false
      turned f h = (ranks_by (print_total ps) (λ (e : Event). e)).one_way x f h

-- ---- the least state
module _ (ps : List (Name × Kind)) (P : ℕ → Type 0) where
  at_place : (y : ℕ) → y < 2 ^ bits_of_scope ps → assignment_at ps (number_in ps y) ≡ y
  at_place y h = again ps y ∙ mod-eq_of_lt h

  -- what holds at each place before one holds at each lesser state
  pub before_place : (k : ℕ) → k < 2 ^ bits_of_scope ps → ((j : ℕ) → j < k → P (assignment_at ps j)) → (y : ℕ) → y < 2 ^ bits_of_scope ps → is_before ps y (assignment_at ps k) ≡ true → P y
  before_place k h all y m b =
      let lesser : number_in ps y < number_in ps (assignment_at ps k) = less ps y (assignment_at ps k) b in
      let place : number_in ps (assignment_at ps k) ≡ k = back ps k h in
      subst P (at_place y m) (all (number_in ps y) (omega arith))

  pub each_place : ((j : ℕ) → j < 2 ^ bits_of_scope ps → P (assignment_at ps j)) → (y : ℕ) → y < 2 ^ bits_of_scope ps → P y
  each_place all y m = subst P (at_place y m) (all (number_in ps y) (below ps y))

pub one_more : (P : ℕ → Type 0) (k : ℕ) → ((j : ℕ) → j < k → P j) → P k → (j : ℕ) → j < k + 1 → P j
one_more P k all here j h = ⊎_elim
    (λ (t : (j == k) ≡ true). subst P (sym (eqb-true j k t)) here)
    (λ (f : (j == k) ≡ false). all j (let ne : j ≡ k → ⊥ = λ e. both_ways (j == k) f (eq-eqb j k e) in omega arith))
    (cases_Bool (j == k))

module _ (s : Store) (ps : List (Name × Kind)) (a b : SetId) where
  tells_by : (side : Side) (x : ℕ) → x < 2 ^ bits_of_scope ps → picked side (has s a x) (has s b x) ≡ true → picked (opposite side) (has s a x) (has s b x) ≡ false
      → ((y : ℕ) → y < 2 ^ bits_of_scope ps → is_before ps y x ≡ true → has s a y ≡ has s b y) → IsLeastEnd s ps (picked side a b) (picked (opposite side) a b) x
  tells_by First x h p q all = record { within = h; own = p; other = q; before = all }
  tells_by Second x h p q all = record { within = h; own = p; other = q; before = λ y k m. sym (all y k m) }

  pub end_tells : (side : Side) (k x : ℕ) → x ≡ assignment_at ps k → k < 2 ^ bits_of_scope ps → IsSide (has s a x) (has s b x) side
      → ((j : ℕ) → j < k → has s a (assignment_at ps j) ≡ has s b (assignment_at ps j)) → Tells s ps a b (record { bits = x; only = side })
  end_tells side k x is h sides all = tells_by side x (subst (λ n. n < 2 ^ bits_of_scope ps) (sym is) (small ps k h)) sides.own sides.other
      (λ y m less. before_place ps (λ z. has s a z ≡ has s b z) k h all y m (subst (λ n. is_before ps y n ≡ true) is less))

  pub same_ends : (k x : ℕ) → x ≡ assignment_at ps k → k + 1 ≡ 2 ^ bits_of_scope ps → has s a x ≡ has s b x
      → ((j : ℕ) → j < k → has s a (assignment_at ps j) ≡ has s b (assignment_at ps j)) → SameEnds s ps a b
  same_ends k x is h here all = each_place ps (λ z. has s a z ≡ has s b z)
      (λ j m. one_more (λ n. has s a (assignment_at ps n) ≡ has s b (assignment_at ps n)) k all (subst (λ n. has s a n ≡ has s b n) is here) j (omega arith))

node_apart : (o p : Option NodeId) → same_node o p ≡ false → o ≡ p → ⊥
node_apart o p h e = both_ways (same_node o o) (subst (λ (q : Option NodeId). same_node o q ≡ false) (sym e) h) (node_itself o)
  where
    node_itself : (o : Option NodeId) → same_node o o ≡ true
    node_itself None = refl
    node_itself (Some c) = eq-eqb c.0 c.0 refl

pub one_node : (o p : Option NodeId) → same_node o p ≡ true → o ≡ p
one_node None None h = refl
one_node None (Some b) h = absurd (false≢true h)
one_node (Some a) None h = absurd (false≢true h)
one_node (Some a) (Some b) h = let n : a.0 ≡ b.0 = eqb-true a.0 b.0 h in λ i. Some (record { 0 = n i })

module _ (w : World) (ps : List (Name × Kind)) (a b : MapId) where
  pub start_tells : (k x : ℕ) → x ≡ assignment_at ps k → k < 2 ^ bits_of_scope ps → same_node (value w.maps a x) (value w.maps b x) ≡ false
      → ((j : ℕ) → j < k → value w.maps a (assignment_at ps j) ≡ value w.maps b (assignment_at ps j)) → IsLeastStart w ps a b x
  start_tells k x is h differs all = record {
    within = subst (λ n. n < 2 ^ bits_of_scope ps) (sym is) (small ps k h);
    apart = node_apart (value w.maps a x) (value w.maps b x) differs;
    before = λ y m less. before_place ps (λ z. value w.maps a z ≡ value w.maps b z) k h all y m (subst (λ n. is_before ps y n ≡ true) is less);
  }

  pub start_more : (k x : ℕ) → x ≡ assignment_at ps k → same_node (value w.maps a x) (value w.maps b x) ≡ true
      → ((j : ℕ) → j < k → value w.maps a (assignment_at ps j) ≡ value w.maps b (assignment_at ps j)) → (j : ℕ) → j < k + 1 → value w.maps a (assignment_at ps j) ≡ value w.maps b (assignment_at ps j)
  start_more k x is one all = one_more (λ n. value w.maps a (assignment_at ps n) ≡ value w.maps b (assignment_at ps n)) k all
      (subst (λ n. value w.maps a n ≡ value w.maps b n) is (one_node (value w.maps a x) (value w.maps b x) one))

-- ---- the least set so far
module _ {V : Type 0} (items : V → List Event) (ps : List (Name × Kind)) (sets other : List (List Event)) (i : ℕ) (x : List Event) (h : i < length sets) (is : x ≡ get_or sets i x) where
  abbrev BestOf : ℕ → Option V → Type 0
  BestOf k best = MatchOption best (AllIn (take k sets) other) (λ v. IsLeastOnly ps (take k sets) other (items v))

  pub best_kept : (best : Option V) → has_set other x ≡ true → BestOf i best → BestOf (i + 1) best
  best_kept None there so_far = kept_none ps sets other i x h is there so_far
  best_kept (Some v) there so_far = kept_some ps sets other i x h is (items v) there so_far

  pub best_more : (best : Option V) (new result : V) → has_set other x ≡ false → IsListOf ps x (items new)
      → MatchOption best (result ≡ new) (λ b. result ≡ cond (is_lt (set_cmp ps (items new) (items b))) new b) → BestOf i best → IsLeastOnly ps (take (i + 1) sets) other (items result)
  best_more None new result out listed e so_far = subst (λ (v : V). IsLeastOnly ps (take (i + 1) sets) other (items v)) (sym e) (first_some ps sets other i x h is (items new) out listed so_far)
  best_more (Some b) new result out listed e so_far = subst (λ (v : V). IsLeastOnly ps (take (i + 1) sets) other (items v)) (sym e) (⊎_elim
      (λ (t : is_lt (set_cmp ps (items new) (items b)) ≡ true). subst (λ (c : Bool). IsLeastOnly ps (take (i + 1) sets) other (items (cond c new b))) (sym t) (less_some ps sets other i x h is (items b) (items new) out listed t so_far))
      (λ (f : is_lt (set_cmp ps (items new) (items b)) ≡ false). subst (λ (c : Bool). IsLeastOnly ps (take (i + 1) sets) other (items (cond c new b))) (sym f) (more_some ps sets other i x h is (items b) (items new) out listed f so_far))
      (cases_Bool (is_lt (set_cmp ps (items new) (items b)))))

-- the set of a list has the members of any list of it
pub listed_again : (ps : List (Name × Kind)) (set events list : List Event) → events ≡ set → IsListOf ps events list → IsListOf ps set list
listed_again ps set events list e = subst (λ (s : List Event). IsListOf ps s list) e

pub empty_list : {A : Type 0} (xs : List A) → length xs < 1 → xs ≡ []
empty_list [] h = refl
empty_list (x ∷ xs) h = absurd (omega (arith, h))

pub front_list : {A : Type 0} (xs : List A) (d : A) → 1 ≤ length xs → xs ≡ get_or xs 0 d ∷ drop 1 xs
front_list [] d h = absurd (omega (arith, h))
front_list (x ∷ xs) d h = refl

-- the lesser of the least sets that the one and the other row have alone
pub side_chosen : (ps : List (Name × Kind)) (a b : List (List Event)) (first second list : List Event) (side : Side) → IsLeastOnly ps a b first → IsLeastOnly ps b a second → list ≡ picked side first second
    → is_lt (set_cmp ps (picked (opposite side) first second) (picked side first second)) ≡ false → (set : List Event) × IsLeastSet ps (picked side a b) (picked (opposite side) a b) set list
side_chosen ps a b first second list First p q e h = (p.set, subst (λ (l : List Event). IsLeastSet ps a b p.set l) (sym e) (of_two ps a b first second p q h))
side_chosen ps a b first second list Second p q e h = (q.set, subst (λ (l : List Event). IsLeastSet ps b a q.set l) (sym e) (of_two ps b a second first q p h))
