-- The acceptances and the offers of a row as lists.
use Rattle.std.proofs.Common.{◌≡◌, ◌<◌, ◌+◌, ◌==◌, ◌||◌, ◌&&◌, ◌++◌, ℕ, Bool, true, false, not, cond, List, [], ◌∷◌, Option, Some, None, is_some, length, get_or, refl, sym, ap, ◌∙◌, subst, ⊎_elim, eq-eqb}
use Rattle.std.specs.Prelude.{option_map}
use Rattle.std.specs.List.{list_all, AllByRecursion}
use Rattle.std.specs.Cmp.Lexicographic.{slice_cmp, lists_total}
use Rattle.std.specs.Cmp.{IsTotalOrder}
use Rattle.std.specs.Ordering.{is_lt, eq_by_cmp, on}
use Rattle.std.specs.declared.cmp.Ordering.{Ordering}
use Rattle.std.proofs.lemmas.Bool.{and_parts, and_from, or_cases, or_parts, or_left, or_right, cases_Bool, both_ways, eqb-true, false≢true}
use Rattle.std.proofs.lemmas.List.{take_more}
use Rattle.std.proofs.Common.{take, MatchOption}
use Rattle.occ_compare.proofs.from_node.Table.{below_at}
use Rattle.occ_compare.specs.occ_node.Offers.{are_below}
use Rattle.std.proofs.lemmas.List.Sorted.{list_any-IsPermutation}
use Rattle.occ_syntax.specs.occ_base.declared.event.Dir.{Dir}
use Rattle.occ_syntax.specs.occ_base.declared.event.Dir.TheVariants.{Input, Output}
use Rattle.occ_syntax.specs.occ_base.declared.event.Event.{Event}
use Rattle.occ_syntax.specs.occ_base.declared.names.Name.{Name}
use Rattle.occ_syntax.specs.declared.scope.Kind.{Kind}
use Rattle.occ_syntax.specs.Scopes.{same_dir, same_event}
use Rattle.occ_compare.specs.occ_accept.Accept.{IsAntichain, in_set, misses, refuses}
use Rattle.occ_compare.specs.occ_accept.Order.{event_cmp, strict, is_in}
use Rattle.occ_compare.proofs.from_accept.Strict.{IsExact, same_tests, tied, tied_same, all_at, all_each, above-not_in}
use Rattle.occ_compare.proofs.from_accept.Events.{cmp_total, event_exact, sets_total}
use Rattle.occ_compare.specs.occ_node.Offers.{next_in, is_offered}
use Rattle.occ_compare.specs.occ_node.declared.node.NodeId.{NodeId}
use Rattle.occ_compare.specs.Orders.{print_cmp, list_cmp, IsListOf, has_set}
use Rattle.occ_compare.proofs.Printing.{print_total, print_exact, one_set}
use Rattle.occ_nform_table.specs.Behaviours.{next_row}
use Rattle.occ_nform_rows.specs.Listed.{number_of}
use Rattle.occ_nform_rows.specs.Lists.{AreLists, IsInOrder, AreSets, IsOffer, AreOffers, with_number, with_numbers}
use Rattle.occ_nform_rows.proofs.Sorting.{AreAlone, sorted_strict, alone_once, lists_exact}

-- ---- ties
pub turned : {A : Type 0} {R : A → A → Ordering} → IsTotalOrder R → IsExact R → (x y : A) → eq_by_cmp R x y ≡ eq_by_cmp R y x
turned {A} {R} o exact x y = same_tests (eq_by_cmp R x y) (eq_by_cmp R y x)
    (λ t. subst (λ (z : A). eq_by_cmp R z x ≡ true) (tied_same o exact x y t) (tied o x))
    (λ t. subst (λ (z : A). eq_by_cmp R z y ≡ true) (tied_same o exact y x t) (tied o y))

module _ (ps : List (Name × Kind)) where
  pub list_total : IsTotalOrder (list_cmp ps)
  list_total = lists_total (print_total ps)

  pub list_exact : IsExact (list_cmp ps)
  list_exact = lists_exact (print_exact ps)

  -- ---- sets
  pub lists_more : (sets lists : List (List Event)) (set list : List Event) → AreLists ps sets lists → IsListOf ps set list → AreLists ps (sets ++ set ∷ []) (lists ++ list ∷ [])
  lists_more [] [] set list are is = (is, tt)
  lists_more [] (l ∷ lists) set list are is = absurd are
  lists_more (s ∷ sets) [] set list are is = absurd are
  lists_more (s ∷ sets) (l ∷ lists) set list are is = (are.0, lists_more sets lists set list are.1 is)

  abbrev IsFrom : List (List Event) → List Event → Type 0
  IsFrom sets list = (set : List Event) × (has_set sets set ≡ true) × (strict event_cmp set ≡ true) × IsListOf ps set list

  pub list_from : (sets lists : List (List Event)) (list : List Event) → AreLists ps sets lists → list_all (strict event_cmp) sets ≡ true → is_in (list_cmp ps) lists list ≡ true → IsFrom sets list
  list_from [] [] list are up h = absurd (false≢true h)
  list_from [] (l ∷ lists) list are up h = absurd are
  list_from (s ∷ sets) [] list are up h = absurd are
  list_from (s ∷ sets) (l ∷ lists) list are up h =
      let p = and_parts (strict event_cmp s) (list_all (strict event_cmp) sets) up in
      ⊎_elim
      (λ (t : eq_by_cmp (list_cmp ps) list l ≡ true).
      let same : list ≡ l = tied_same list_total list_exact list l t in
      (s, or_left (eq_by_cmp (slice_cmp event_cmp) s s) (has_set sets s) (tied sets_total s), p.0, subst (λ (k : List Event). IsListOf ps s k) (sym same) are.0))
      (λ (t : is_in (list_cmp ps) lists list ≡ true).
      let w = list_from sets lists list are.1 p.1 t in
      (w.0, or_right (eq_by_cmp (slice_cmp event_cmp) w.0 s) (has_set sets w.0) w.1, w.2, w.3))
      (or_cases (eq_by_cmp (list_cmp ps) list l) (is_in (list_cmp ps) lists list) h)

  lists_alone : (sets lists : List (List Event)) → AreLists ps sets lists → strict (slice_cmp event_cmp) sets ≡ true → list_all (strict event_cmp) sets ≡ true → AreAlone list_total lists
  lists_alone [] [] are up each = tt
  lists_alone [] (l ∷ lists) are up each = absurd are
  lists_alone (s ∷ sets) [] are up each = absurd are
  lists_alone (s ∷ sets) (l ∷ lists) are up each =
      let p = and_parts (list_all (λ t. is_lt (slice_cmp event_cmp s t)) sets) (strict (slice_cmp event_cmp) sets) up in
      let q = and_parts (strict event_cmp s) (list_all (strict event_cmp) sets) each in (
        ⊎_elim
            (λ (t : is_in (list_cmp ps) lists l ≡ true).
            let w = list_from sets lists l are.1 q.1 t in
            let same : w.0 ≡ s = one_set ps w.0 s l w.2 q.0 w.3 are.0 in
            absurd (both_ways (has_set sets s) (above-not_in sets_total s sets p.0) (ap (has_set sets) (sym same) ∙ w.1)))
            (λ (f : is_in (list_cmp ps) lists l ≡ false). f)
            (cases_Bool (is_in (list_cmp ps) lists l)),
        lists_alone sets lists are.1 p.1 q.1,
      )

  all_of : (p : Event → Bool) (set list : List Event) → IsListOf ps set list → list_all p list ≡ list_all p set
  all_of p set list is = same_tests (list_all p list) (list_all p set)
      (λ h. all_each cmp_total event_exact p set (λ e m. all_at cmp_total event_exact p list e h (is.members e ∙ m)))
      (λ h. all_each cmp_total event_exact p list (λ e m. all_at cmp_total event_exact p set e h (sym (is.members e) ∙ m)))

  lists_refuse : (X : Event → Bool) (sets lists : List (List Event)) → AreLists ps sets lists → refuses lists X ≡ refuses sets X
  lists_refuse X [] [] are = refl
  lists_refuse X [] (l ∷ lists) are = absurd are
  lists_refuse X (s ∷ sets) [] are = absurd are
  lists_refuse X (s ∷ sets) (l ∷ lists) are =
      let first : misses X l ≡ misses X s = all_of (λ e. not (X e)) s l are.0 in
      let rest : refuses lists X ≡ refuses sets X = lists_refuse X sets lists are.1 in
      λ i. first i || rest i

  pub sets_listed : (sets lists new : List (List Event)) → IsAntichain sets → AreLists ps sets lists → IsInOrder ps lists new → AreSets ps sets new
  sets_listed sets lists new chain are order = record {
    increasing = sorted_strict list_total (tied list_total) lists new (alone_once list_total (turned list_total list_exact) list_exact lists (lists_alone sets lists are chain.increasing chain.events)) order.moved order.sorted;
    refusals = λ X. sym (list_any-IsPermutation (misses X) lists new order.moved) ∙ lists_refuse X sets lists are;
    each = λ list h. let w = list_from sets lists list are chain.events (list_any-IsPermutation (eq_by_cmp (list_cmp ps) list) lists new order.moved ∙ h) in (w.0, w.1, w.3);
  }

-- ---- the two tests of events
same_number : (a b : Dir) → same_dir a b ≡ true → a ≡ b
same_number Input Input h = refl
same_number Input Output h = absurd (false≢true h)
same_number Output Input h = absurd (false≢true h)
same_number Output Output h = refl

same_itself : (a : Dir) → same_dir a a ≡ true
same_itself Input = refl
same_itself Output = refl

pub event_is : (e f : Event) → same_event e f ≡ eq_by_cmp event_cmp e f
event_is e f = same_tests (same_event e f) (eq_by_cmp event_cmp e f)
    (λ h.
    let p = and_parts (e.chan.0 == f.chan.0 && same_dir e.dir f.dir) (e.value == f.value) h in
    let q = and_parts (e.chan.0 == f.chan.0) (same_dir e.dir f.dir) p.0 in
    let chan : e.chan.0 ≡ f.chan.0 = eqb-true e.chan.0 f.chan.0 q.0 in
    let dir : e.dir ≡ f.dir = same_number e.dir f.dir q.1 in
    let value : e.value ≡ f.value = eqb-true e.value f.value p.1 in
    let one : e ≡ f = λ i. record { chan = record { 0 = chan i }; dir = dir i; value = value i } in
    subst (λ (g : Event). eq_by_cmp event_cmp e g ≡ true) one (tied cmp_total e))
    (λ h. subst (λ (g : Event). same_event e g ≡ true) (tied_same cmp_total event_exact e f h)
    (and_from (e.chan.0 == e.chan.0 && same_dir e.dir e.dir) (e.value == e.value) (and_from (e.chan.0 == e.chan.0) (same_dir e.dir e.dir) (eq-eqb e.chan.0 e.chan.0 refl) (same_itself e.dir)) (eq-eqb e.value e.value refl)))

-- ---- offers

module _ (numbers : List ℕ) (offers : List (Event × NodeId)) where
  -- where the first event isn't the one that is looked for, and where it is
  other_first : (f : Event) (next : Option NodeId) (rest : List (Event × ℕ)) (e : Event) → same_event f e ≡ false → next_row (with_number numbers f next rest) e ≡ next_row rest e
  unfolding next_row
  other_first f None rest e h = refl
  other_first f (Some a) rest e h = ap (λ b. cond b (Some (number_of numbers a)) (next_row rest e)) h

  own_first : (f : Event) (a : NodeId) (rest : List (Event × ℕ)) (e : Event) → same_event f e ≡ true → next_row (with_number numbers f (Some a) rest) e ≡ Some (number_of numbers a)
  unfolding next_row
  own_first f a rest e h = ap (λ b. cond b (Some (number_of numbers a)) (next_row rest e)) h

  no_rows : (e : Event) → next_row [] e ≡ None
  unfolding next_row
  no_rows e = refl

  same_event_is : (e f : Event) (b : Bool) → eq_by_cmp event_cmp e f ≡ b → same_event f e ≡ b
  same_event_is e f b h = event_is f e ∙ turned cmp_total event_exact f e ∙ h

  next_out : (list : List Event) (e : Event) → in_set list e ≡ false → next_row (with_numbers numbers offers list) e ≡ None
  next_out [] e h = no_rows e
  next_out (f ∷ list) e h =
      let p = or_parts (eq_by_cmp event_cmp e f) (in_set list e) h in
      other_first f (next_in offers f) (with_numbers numbers offers list) e (same_event_is e f false p.0) ∙ next_out list e p.1

  next_here : (list : List Event) (e : Event) (a : NodeId) → next_in offers e ≡ Some a → in_set list e ≡ true → next_row (with_numbers numbers offers list) e ≡ Some (number_of numbers a)
  next_here [] e a is h = absurd (false≢true h)
  next_here (f ∷ list) e a is h = ⊎_elim
      (λ (t : eq_by_cmp event_cmp e f ≡ true).
      let same : e ≡ f = tied_same cmp_total event_exact e f t in
      let next : next_in offers f ≡ Some a = ap (next_in offers) (sym same) ∙ is in
      ap (λ o. next_row (with_number numbers f o (with_numbers numbers offers list)) e) next ∙ own_first f a (with_numbers numbers offers list) e (same_event_is e f true t))
      (λ (n : eq_by_cmp event_cmp e f ≡ false).
      let rest : in_set list e ≡ true = sym (ap (λ b. b || in_set list e) n) ∙ h in
      other_first f (next_in offers f) (with_numbers numbers offers list) e (same_event_is e f false n) ∙ next_here list e a is rest)
      (cases_Bool (eq_by_cmp event_cmp e f))

  next_there : (list : List Event) (e : Event) → in_set list e ≡ is_offered offers e → (o : Option NodeId) → next_in offers e ≡ o → next_row (with_numbers numbers offers list) e ≡ option_map (number_of numbers) o
  next_there list e there None is = next_out list e (there ∙ ap is_some is)
  next_there list e there (Some a) is = next_here list e a is (there ∙ ap is_some is)

  each_one : (f : Event) (o : Option NodeId) (rest : List (Event × ℕ)) → next_in offers f ≡ o → AllByRecursion (IsOffer numbers offers) rest → AllByRecursion (IsOffer numbers offers) (with_number numbers f o rest)
  each_one f None rest is all = all
  each_one f (Some a) rest is all = ((a, is, refl), all)

  each_offer : (list : List Event) → AllByRecursion (IsOffer numbers offers) (with_numbers numbers offers list)
  each_offer [] = tt
  each_offer (f ∷ list) = each_one f (next_in offers f) (with_numbers numbers offers list) refl (each_offer list)

  module _ (R : Event → Event → Ordering) where
    above_one : (e f : Event) (o : Option NodeId) (rest : List (Event × ℕ)) → is_lt (R e f) ≡ true → list_all (λ (q : Event × ℕ). is_lt (R e q.0)) rest ≡ true → list_all (λ (q : Event × ℕ). is_lt (R e q.0)) (with_number numbers f o rest) ≡ true
    above_one e f None rest h all = all
    above_one e f (Some a) rest h all = and_from (is_lt (R e f)) (list_all (λ (q : Event × ℕ). is_lt (R e q.0)) rest) h all

    above_all : (e : Event) (list : List Event) → list_all (λ f. is_lt (R e f)) list ≡ true → list_all (λ (q : Event × ℕ). is_lt (R e q.0)) (with_numbers numbers offers list) ≡ true
    above_all e [] h = refl
    above_all e (f ∷ list) h =
        let p = and_parts (is_lt (R e f)) (list_all (λ f. is_lt (R e f)) list) h in
        above_one e f (next_in offers f) (with_numbers numbers offers list) p.0 (above_all e list p.1)

    strict_one : (f : Event) (o : Option NodeId) (rest : List (Event × ℕ)) → list_all (λ (q : Event × ℕ). is_lt (R f q.0)) rest ≡ true → strict (on (λ (q : Event × ℕ). q.0) R) rest ≡ true → strict (on (λ (q : Event × ℕ). q.0) R) (with_number numbers f o rest) ≡ true
    strict_one f None rest above up = up
    strict_one f (Some a) rest above up = and_from (list_all (λ (q : Event × ℕ). is_lt (R f q.0)) rest) (strict (on (λ (q : Event × ℕ). q.0) R) rest) above up

    strict_all : (list : List Event) → strict R list ≡ true → strict (on (λ (q : Event × ℕ). q.0) R) (with_numbers numbers offers list) ≡ true
    strict_all [] h = refl
    strict_all (f ∷ list) h =
        let p = and_parts (list_all (λ g. is_lt (R f g)) list) (strict R list) h in
        strict_one f (next_in offers f) (with_numbers numbers offers list) (above_all f list p.0) (strict_all list p.1)

  pub offers_listed : (ps : List (Name × Kind)) (set events : List Event) (list : List (Event × ℕ)) → ((e : Event) → in_set set e ≡ is_offered offers e) → IsListOf ps set events → list ≡ with_numbers numbers offers events → AreOffers ps numbers offers list
  offers_listed ps set events list there is e = subst (AreOffers ps numbers offers) (sym e) (record {
    next = λ f. next_there events f (is.members f ∙ there f) (next_in offers f) refl;
    increasing = strict_all (print_cmp ps) events is.increasing;
    each = each_offer events;
  })

  -- ---- a step
  with_behind : (f : Event) (o : Option NodeId) (rest more : List (Event × ℕ)) → with_number numbers f o (rest ++ more) ≡ with_number numbers f o rest ++ more
  with_behind f None rest more = refl
  with_behind f (Some a) rest more = refl

  with_last : (events : List Event) (e : Event) → with_numbers numbers offers (events ++ e ∷ []) ≡ with_numbers numbers offers events ++ with_number numbers e (next_in offers e) []
  with_last [] e = refl
  with_last (f ∷ events) e = ap (with_number numbers f (next_in offers f)) (with_last events e) ∙ with_behind f (next_in offers f) (with_numbers numbers offers events) (with_number numbers e (next_in offers e) [])

  pub with_step : (events : List Event) (i : ℕ) (e : Event) (next : Option NodeId) (old new : List (Event × ℕ)) → i < length events → e ≡ get_or events i e → next ≡ next_in offers e → old ≡ with_numbers numbers offers (take i events)
      → new ≡ old ++ with_number numbers e next [] → new ≡ with_numbers numbers offers (take (i + 1) events)
  with_step events i e next old new h is found so_far more = more ∙ (λ j. so_far j ++ with_number numbers e (found j) []) ∙ sym (with_last (take i events) e)
      ∙ ap (with_numbers numbers offers) (ap (λ f. take i events ++ f ∷ []) is ∙ sym (take_more events i e h))

pub next_small : (n : ℕ) (offers : List (Event × NodeId)) (e : Event) (o : Option NodeId) → are_below n offers ≡ true → o ≡ next_in offers e → MatchOption o (Unit {0}) (λ b. b.0 < n)
next_small n offers e None low is = tt
next_small n offers e (Some b) low is = below_at n offers e b low (sym is)
