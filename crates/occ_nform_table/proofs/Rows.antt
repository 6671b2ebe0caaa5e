-- Rows of the same behaviours: their lines but for the numbers of the rows that they offer.
use Rattle.std.proofs.Common.{◌≡◌, ℕ, ◌^◌, ◌<◌, Bool, true, false, not, ◌&&◌, ◌==◌, nat_lt, if◌then◌else◌, List, [], ◌∷◌, length, Option, Some, None, refl, sym, ap, ◌∙◌, subst, inl, inr, ◌⊎◌, arith}
use Rattle.std.proofs.lemmas.Bool.{and_from, cases_Bool, false≢true, eqb-true, eq-eqb, ltb-true}
use Rattle.std.specs.List.{list_all, list_any, AllByRecursion}
use Rattle.occ_lex.specs.occ_base.declared.event.Event.{Event}
use Rattle.occ_lex.specs.occ_base.declared.names.Name.{Name}
use Rattle.occ_syntax.specs.declared.scope.Kind.{Kind}
use Rattle.occ_syntax.specs.Counts.{bits_of_scope}
use Rattle.occ_syntax.specs.Scopes.{EventSet, environment, in_interface, same_event}
use Rattle.occ_behaviour.specs.States.{is_state}
use Rattle.occ_nform_table.specs.declared.table.TableRow.{TableRow}
use Rattle.occ_nform_table.specs.Lines.{rank, state_place}
use Rattle.occ_nform_table.specs.Judging.{contains, is_empty_row, is_none, set_less}
use Rattle.occ_nform_table.specs.Behaviours.{IsOfInterface, goes_on, next_row, row_at, row_ends, row_fails}
use Rattle.occ_nform_table.proofs.Lists.{Chain, In, any_in, chain_less, in_all, in_any, same_chains}
use Rattle.occ_nform_table.proofs.Orders.{numbers_strict, sets_strict}
use Rattle.occ_nform_table.proofs.Events.{IsProper, event_itself, none_not_some, same_event_is, some_is}
use Rattle.occ_nform_table.proofs.States.{place_below, same_state}
use Rattle.occ_nform_table.proofs.Sets.{same_acceptance}
use Rattle.occ_nform_table.proofs.Facts.{IsPlain}

-- a row of one table and a row of another have the same behaviours
pub record AreAlike (params : List (Name × Kind)) (rows others : List TableRow) (i j : ℕ) : Type 0 where
  pub fails : (trace : List Event) (X : EventSet) → IsOfInterface params trace X → row_fails rows i trace X ≡ row_fails others j trace X
  pub ends : (trace : List Event) (place : ℕ) → place < 2 ^ bits_of_scope params → IsOfInterface params trace (λ e. false) → row_ends params rows i trace place ≡ row_ends params others j trace place

pub turned : (params : List (Name × Kind)) (rows others : List TableRow) (i j : ℕ) → AreAlike params rows others i j → AreAlike params others rows j i
turned params rows others i j h = record { fails = λ t X k. sym (h.fails t X k); ends = λ t p l k. sym (h.ends t p l k) }

pub joined : (params : List (Name × Kind)) (rows others thirds : List TableRow) (i j k : ℕ) → AreAlike params rows others i j → AreAlike params others thirds j k → AreAlike params rows thirds i k
joined params rows others thirds i j k h g = record { fails = λ t X l. h.fails t X l ∙ g.fails t X l; ends = λ t p l m. h.ends t p l m ∙ g.ends t p l m }

no_event : (params : List (Name × Kind)) → IsOfInterface params [] (λ e. false)
no_event params = (refl, λ e h. absurd (false≢true h))

-- ---- ends
module _ (params : List (Name × Kind)) where
  abbrev AreStates : List (List (Name × ℕ)) → Type 0
  AreStates states = AllByRecursion (λ state. is_state params state ≡ true) states

  abbrev ends_at : List (List (Name × ℕ)) → ℕ → Bool
  ends_at states place = list_any (λ state. state_place params state == place) states

  one_end : (states others : List (List (Name × ℕ))) → AreStates states → AreStates others → ((place : ℕ) → place < 2 ^ bits_of_scope params → ends_at states place ≡ ends_at others place)
      → (s : List (Name × ℕ)) → In s states → In s others
  one_end states others forms other_forms same s k =
      let form = in_all (λ state. is_state params state ≡ true) states s forms k in
      let here : ends_at states (state_place params s) ≡ true = in_any (λ state. state_place params state == state_place params s) states s k (eq-eqb (state_place params s) (state_place params s) refl) in
      let found = any_in (λ state. state_place params state == state_place params s) others (sym (same (state_place params s) (place_below params s form)) ∙ here) in
      let is : found.0 ≡ s = same_state params found.0 s (in_all (λ state. is_state params state ≡ true) others found.0 other_forms found.1) form (eqb-true (state_place params found.0) (state_place params s) found.2) in
      subst (λ u. In u others) is found.1

  same_ends : (states others : List (List (Name × ℕ))) → AreStates states → AreStates others
      → Chain (λ s u. nat_lt (state_place params s) (state_place params u)) None states → Chain (λ s u. nat_lt (state_place params s) (state_place params u)) None others
      → ((place : ℕ) → place < 2 ^ bits_of_scope params → ends_at states place ≡ ends_at others place) → states ≡ others
  same_ends states others forms other_forms h k same =
      same_chains (λ s u. nat_lt (state_place params s) (state_place params u)) (numbers_strict (state_place params)) None None states others h k
      (one_end states others forms other_forms same) (one_end others states other_forms forms (λ place l. sym (same place l)))

-- ---- offers
module _ (params : List (Name × Kind)) where
  abbrev OffersRise : Option (Event × ℕ) → List (Event × ℕ) → Type 0
  OffersRise before offers = Chain (λ (o p : Event × ℕ). nat_lt (rank params o.0) (rank params p.0)) before offers

  pub offered : (before : Option (Event × ℕ)) (offers : List (Event × ℕ)) → OffersRise before offers → (o : Event × ℕ) → In o offers → next_row offers o.0 ≡ Some o.1
  unfolding next_row
  offered before [] h o k = absurd k
  offered before (p ∷ offers) h o (inl e) = ap (λ b. if b then Some p.1 else next_row offers o.0) (subst (λ f. same_event p.0 f ≡ true) (ap (λ (q : Event × ℕ). q.0) (sym e)) (event_itself p.0)) ∙ ap (λ (q : Event × ℕ). Some q.1) (sym e)
  offered before (p ∷ offers) h o (inr k) = go (cases_Bool (same_event p.0 o.0)) (offered (Some p) offers h.1 o k)
    where
      go : (same_event p.0 o.0 ≡ true) ⊎ (same_event p.0 o.0 ≡ false) → next_row offers o.0 ≡ Some o.1 → (if same_event p.0 o.0 then Some p.1 else next_row offers o.0) ≡ Some o.1
      go (inl e) ih =
          let less = ltb-true (rank params p.0) (rank params o.0) (chain_less (λ (q r : Event × ℕ). nat_lt (rank params q.0) (rank params r.0)) (numbers_strict (λ (q : Event × ℕ). rank params q.0)) p offers h.1 o k) in
          absurd (omega (arith, less, ap (rank params) (same_event_is p.0 o.0 e)))
      go (inr e) ih = ap (λ b. if b then Some p.1 else next_row offers o.0) e ∙ ih

pub offer_found : (offers : List (Event × ℕ)) (e : Event) (m : ℕ) → next_row offers e ≡ Some m → In (e, m) offers
unfolding next_row
offer_found [] e m h = none_not_some h
offer_found (p ∷ offers) e m h = go (cases_Bool (same_event p.0 e)) (offer_found offers e m)
  where
    go : (same_event p.0 e ≡ true) ⊎ (same_event p.0 e ≡ false) → (next_row offers e ≡ Some m → In (e, m) offers) → ((e, m) ≡ p) ⊎ In (e, m) offers
    go (inl s) ih =
        let one = sym (same_event_is p.0 e s) in
        let two = sym (some_is (sym (ap (λ b. if b then Some p.1 else next_row offers e) s) ∙ h)) in
        inl (λ i. (one i, two i))
    go (inr s) ih = inr (ih (sym (ap (λ b. if b then Some p.1 else next_row offers e) s) ∙ h))

goes_somewhere : (o : Option ℕ) (test : ℕ → Bool) → goes_on o test ≡ true → (m : ℕ) × (o ≡ Some m)
goes_somewhere None test h = absurd (false≢true h)
goes_somewhere (Some m) test h = (m, refl)

-- ---- behaviours behind an offer
module _ (params : List (Name × Kind)) (rows : List TableRow) (i m : ℕ) (e : Event) (next : next_row (row_at rows i).offers e ≡ Some m) where
  pub fails_behind : (trace : List Event) (X : EventSet) → row_fails rows i (e ∷ trace) X ≡ row_fails rows m trace X
  unfolding row_fails
  fails_behind trace X = ap (λ o. goes_on o (λ n. row_fails rows n trace X)) next

  pub ends_behind : (trace : List Event) (place : ℕ) → row_ends params rows i (e ∷ trace) place ≡ row_ends params rows m trace place
  unfolding row_ends
  ends_behind trace place = ap (λ o. goes_on o (λ n. row_ends params rows n trace place)) next

pub fails_first : (rows : List TableRow) (i : ℕ) (e : Event) (trace : List Event) (X : EventSet) → row_fails rows i (e ∷ trace) X ≡ true → (m : ℕ) × (next_row (row_at rows i).offers e ≡ Some m)
unfolding row_fails
fails_first rows i e trace X h = goes_somewhere (next_row (row_at rows i).offers e) (λ n. row_fails rows n trace X) h

pub ends_first : (params : List (Name × Kind)) (rows : List TableRow) (i : ℕ) (e : Event) (trace : List Event) (place : ℕ) → row_ends params rows i (e ∷ trace) place ≡ true
    → (m : ℕ) × (next_row (row_at rows i).offers e ≡ Some m)
unfolding row_ends
ends_first params rows i e trace place h = goes_somewhere (next_row (row_at rows i).offers e) (λ n. row_ends params rows n trace place) h

pub fails_now : (rows : List TableRow) (i : ℕ) (X : EventSet) → row_fails rows i [] X ≡ list_any (list_all (λ e. not (X e))) (row_at rows i).accepts
unfolding row_fails
fails_now rows i X = refl

pub ends_now : (params : List (Name × Kind)) (rows : List TableRow) (i place : ℕ) → row_ends params rows i [] place ≡ list_any (λ state. state_place params state == place) (row_at rows i).ends
unfolding row_ends
ends_now params rows i place = refl

-- ---- a row that isn't empty has a behaviour
pub data HasOne (params : List (Name × Kind)) (rows : List TableRow) (i : ℕ) : Type 0 where
  an_end : (place : ℕ) → place < 2 ^ bits_of_scope params → row_ends params rows i [] place ≡ true → HasOne params rows i
  a_failure : row_fails rows i [] (λ e. false) ≡ true → HasOne params rows i

refuses_nothing : (set : List Event) → list_all (λ (e : Event). not false) set ≡ true
refuses_nothing [] = refl
refuses_nothing (e ∷ set) = refuses_nothing set

pub has_one : (params : List (Name × Kind)) (rows : List TableRow) (i : ℕ) → AllByRecursion (λ state. is_state params state ≡ true) (row_at rows i).ends → is_empty_row (row_at rows i) ≡ false → HasOne params rows i
has_one params rows i forms full = go (row_at rows i).ends (row_at rows i).accepts refl refl forms full
  where
    go : (ends : List (List (Name × ℕ))) (accepts : List (List Event)) → (row_at rows i).ends ≡ ends → (row_at rows i).accepts ≡ accepts
        → AllByRecursion (λ state. is_state params state ≡ true) ends → (is_none ends && is_none accepts) ≡ false → HasOne params rows i
    go [] [] e f h k = absurd (false≢true (sym k))
    go (s ∷ ends) accepts e f h k = an_end (state_place params s) (place_below params s h.0)
        (ends_now params rows i (state_place params s) ∙ ap (list_any (λ state. state_place params state == state_place params s)) e
        ∙ in_any (λ state. state_place params state == state_place params s) (s ∷ ends) s (inl refl) (eq-eqb (state_place params s) (state_place params s) refl))
    go [] (set ∷ accepts) e f h k = a_failure
        (fails_now rows i (λ x. false) ∙ ap (list_any (list_all (λ x. not false))) f ∙ in_any (list_all (λ x. not false)) (set ∷ accepts) set (inl refl) (refuses_nothing set))

-- ---- two tables of one interface
one_more : (params : List (Name × Kind)) (e : Event) (trace : List Event) (X : EventSet) → in_interface (environment params) e ≡ true → IsOfInterface params trace X → IsOfInterface params (e ∷ trace) X
one_more params e trace X h k = (and_from (in_interface (environment params) e) (list_all (in_interface (environment params)) trace) h k.0, k.1)

module _ (names : List (List ℕ)) (params : List (Name × Kind)) (rows others : List TableRow) (heights other_heights : List ℕ)
    (plain : IsPlain names params rows heights) (other_plain : IsPlain names params others other_heights) where
  pub offer_form : (i : ℕ) → i < length rows → (o : Event × ℕ) → In o (row_at rows i).offers → (in_interface (environment params) o.0 ≡ true) × (o.1 < i)
  offer_form i hi o k = in_all (λ (p : Event × ℕ). (in_interface (environment params) p.0 ≡ true) × (p.1 < i)) (row_at rows i).offers o (plain.form i hi).offers k

  -- what an offer leads to, the other row's offer of that event leads to as well
  pub behind_offer : (i j : ℕ) → i < length rows → j < length others → AreAlike params rows others i j → (o : Event × ℕ) → In o (row_at rows i).offers
      → (n : ℕ) × In (o.0, n) (row_at others j).offers × AreAlike params rows others o.1 n
  behind_offer i j hi hj alike o k =
      let here = offer_form i hi o k in
      let lt : o.1 < length rows = omega (arith, hi, here.1) in
      let next = offered params None (row_at rows i).offers (plain.tidy i hi).offers o k in
      let found = go here.0 next (has_one params rows o.1 (plain.form o.1 lt).ends (plain.full o.1 lt)) in (
        found.0,
        offer_found (row_at others j).offers o.0 found.0 found.1,
        record {
          fails = λ t X f. sym (fails_behind params rows i o.1 o.0 next t X) ∙ alike.fails (o.0 ∷ t) X (one_more params o.0 t X here.0 f) ∙ fails_behind params others j found.0 o.0 found.1 t X;
          ends = λ t p l f. sym (ends_behind params rows i o.1 o.0 next t p) ∙ alike.ends (o.0 ∷ t) p l (one_more params o.0 t (λ e. false) here.0 f) ∙ ends_behind params others j found.0 o.0 found.1 t p;
        },
      )
    where
      go : in_interface (environment params) o.0 ≡ true → next_row (row_at rows i).offers o.0 ≡ Some o.1 → HasOne params rows o.1 → (n : ℕ) × (next_row (row_at others j).offers o.0 ≡ Some n)
      go inside next (an_end place below h) = ends_first params others j o.0 [] place
          (sym (alike.ends (o.0 ∷ []) place below (one_more params o.0 [] (λ e. false) inside (no_event params))) ∙ ends_behind params rows i o.1 o.0 next [] place ∙ h)
      go inside next (a_failure h) = fails_first others j o.0 [] (λ e. false)
          (sym (alike.fails (o.0 ∷ []) (λ e. false) (one_more params o.0 [] (λ e. false) inside (no_event params))) ∙ fails_behind params rows i o.1 o.0 next [] (λ e. false) ∙ h)

module _ (names : List (List ℕ)) (params : List (Name × Kind)) (proper : IsProper params) (rows others : List TableRow) (heights other_heights : List ℕ)
    (plain : IsPlain names params rows heights) (other_plain : IsPlain names params others other_heights) where
  row_ends_same : (i j : ℕ) → i < length rows → j < length others → AreAlike params rows others i j → (row_at rows i).ends ≡ (row_at others j).ends
  row_ends_same i j hi hj alike = same_ends params (row_at rows i).ends (row_at others j).ends (plain.form i hi).ends (other_plain.form j hj).ends (plain.tidy i hi).ends (other_plain.tidy j hj).ends
      (λ place l. sym (ends_now params rows i place) ∙ alike.ends [] place l (no_event params) ∙ ends_now params others j place)

  row_accepts_same : (i j : ℕ) → i < length rows → j < length others → AreAlike params rows others i j → (row_at rows i).accepts ≡ (row_at others j).accepts
  row_accepts_same i j hi hj alike =
      let same : (X : EventSet) → ((e : Event) → X e ≡ true → in_interface (environment params) e ≡ true)
      → list_any (list_all (λ e. not (X e))) (row_at rows i).accepts ≡ list_any (list_all (λ e. not (X e))) (row_at others j).accepts =
      λ X f. sym (fails_now rows i X) ∙ alike.fails [] X (refl, f) ∙ fails_now others j X in
      same_chains (set_less params) (sets_strict params) None None (row_at rows i).accepts (row_at others j).accepts (plain.tidy i hi).accepts (other_plain.tidy j hj).accepts
      (same_acceptance params proper (row_at rows i).accepts (row_at others j).accepts (plain.form i hi).accepts (other_plain.form j hj).accepts
      (λ set k. in_all (λ s. list_any (contains params s) (row_at rows i).accepts ≡ false) (row_at rows i).accepts set (plain.tidy i hi).least k) same)
      (same_acceptance params proper (row_at others j).accepts (row_at rows i).accepts (other_plain.form j hj).accepts (plain.form i hi).accepts
      (λ set k. in_all (λ s. list_any (contains params s) (row_at others j).accepts ≡ false) (row_at others j).accepts set (other_plain.tidy j hj).least k) (λ X f. sym (same X f)))

  -- Rows of the same behaviours are one, where the rows that they lead to are known by their numbers.
  pub same_row : (i j : ℕ) → i < length rows → j < length others → AreAlike params rows others i j
      → ((m n : ℕ) → m < i → n < length others → AreAlike params rows others m n → m ≡ n) → row_at rows i ≡ row_at others j
  same_row i j hi hj alike lower =
      let offers : (row_at rows i).offers ≡ (row_at others j).offers =
      same_chains (λ (o p : Event × ℕ). nat_lt (rank params o.0) (rank params p.0)) (numbers_strict (λ (o : Event × ℕ). rank params o.0)) None None
      (row_at rows i).offers (row_at others j).offers (plain.tidy i hi).offers (other_plain.tidy j hj).offers over back in
      λ k. record { ends = row_ends_same i j hi hj alike k; accepts = row_accepts_same i j hi hj alike k; offers = offers k }
    where
      over : (o : Event × ℕ) → In o (row_at rows i).offers → In o (row_at others j).offers
      over o k =
          let found = behind_offer names params rows others heights other_heights plain other_plain i j hi hj alike o k in
          let here = offer_form names params rows others heights other_heights plain other_plain i hi o k in
          let there = offer_form names params others rows other_heights heights other_plain plain j hj (o.0, found.0) found.1 in
          let e : o.1 ≡ found.0 = lower o.1 found.0 here.1 (omega (arith, hj, there.1)) found.2 in
          subst (λ n. In (o.0, n) (row_at others j).offers) (sym e) found.1

      back : (o : Event × ℕ) → In o (row_at others j).offers → In o (row_at rows i).offers
      back o k =
          let found = behind_offer names params others rows other_heights heights other_plain plain j i hj hi (turned params rows others i j alike) o k in
          let here = offer_form names params others rows other_heights heights other_plain plain j hj o k in
          let there = offer_form names params rows others heights other_heights plain other_plain i hi (o.0, found.0) found.1 in
          let e : found.0 ≡ o.1 = lower found.0 o.1 there.1 (omega (arith, hj, here.1)) (turned params others rows o.1 found.0 found.2) in
          subst (λ n. In (o.0, n) (row_at rows i).offers) e found.1
