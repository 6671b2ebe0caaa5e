-- An assignment of variables to themselves as an IF over all states of the scope, which tells each.
use Rattle.std.proofs.Common.{◌≡◌, ◌∙◌, ◌++◌, ◌==◌, ◌+◌, ◌<◌, ◌≤◌, ◌^◌, ◌&&◌, ℕ, zero, suc, nat_lt, false, true, List, [], ◌∷◌, None, Some, refl, sym, ap, subst, arith}
use Rattle.std.proofs.lemmas.Bool.{and_from, and_parts, eqb-true, ltb-true, or_left, or_parts, or_right}
use Rattle.std.specs.List.{AllByRecursion}
use Rattle.occ_engine.specs.occ_base.declared.names.Name.{Name}
use Rattle.occ_engine.specs.occ_base.declared.width.Width.{Width}
use Rattle.occ_engine.specs.occ_base.declared.width.Width.TheVariants.{Bool as TruthValue}
use Rattle.occ_engine.specs.occ_base.Width.{bits_of}
use Rattle.occ_complete_states.specs.occ_behaviour.States.{is_state}
use Rattle.occ_engine.specs.occ_bits.Named.{are_conditions}
use Rattle.occ_complete.proofs.States.{NameOwn, condition_own, constant_own, holds_same, own_few, own_more, states_exhaustive, tests_from, true_holds, variable_own}
use Rattle.occ_complete_states.specs.occ_derive_moves.Unified.{cleared}
use Rattle.occ_complete_states.proofs.from_derive_laws.Conditions.{conditions_append}
use Rattle.occ_complete_states.proofs.from_derive_laws.IfHolding.{copy_law, under_law}
use Rattle.occ_complete_states.proofs.Leading.{law_leads, leads_itself, leads_on}
use Rattle.occ_complete_states.specs.Leads.{Leads}
use Rattle.occ_complete_states.specs.States.{facts, told}
use Rattle.occ_complete_states.proofs.Ending.{facts_append, state_front}
use Rattle.occ_complete_states.proofs.Facts.{IsHeld, IsListed, IsWide, all_held, all_listed, all_wide, constant_type}
use Rattle.occ_engine.specs.occ_law.Choice.{copies}
use Rattle.occ_engine.specs.occ_law.Lists.{all_cases, conditions, variables as own_values}
use Rattle.occ_engine.specs.occ_law.States.{EachEqual, IsEqualWhere, and_place, no_place}
use Rattle.occ_engine.proofs.from_meaning.Facts.{at_itself, false_not_true, if_true, value_off}
use Rattle.occ_complete_states.specs.occ_nform_table.Texts.{state_at_place}
use Rattle.occ_complete_states.proofs.from_nform_table.PlaceNames.{place_is_state}
use Rattle.occ_engine.specs.occ_syntax.declared.expr.Op.TheVariants.{And, Equal}
use Rattle.occ_engine.specs.occ_syntax.declared.scope.Kind.{Kind}
use Rattle.occ_engine.specs.occ_syntax.declared.scope.Kind.TheVariants.{Chan, Var}
use Rattle.occ_engine.specs.occ_syntax.Counts.{bits_of_scope}
use Rattle.occ_engine.specs.occ_syntax.Names.{is_in, some_names}
use Rattle.occ_engine.specs.occ_syntax.Scopes.{Environment, IsState, Values, environment, values, variable_kind, variable_width}
use Rattle.occ_engine.specs.occ_syntax.Tree.{Cases, Exp, Tree, and_case, assign, no_case, operation, select, variable}
use Rattle.occ_engine.specs.occ_syntax.Types.{agree, is_condition, is_pair, is_width, same_width, scope_kept, type_given, type_of, type_of_two}
use Rattle.occ_engine.specs.occ_syntax.Usage.{Keeps}
use Rattle.occ_complete_states.specs.occ_target.States.{condition, constant, is_at, joined, tests, variables}
use Rattle.occ_complete_states.proofs.from_target_laws.Following.{constant_value}
use Rattle.occ_complete_states.proofs.from_target_laws.Initial.{Holds, holds_itself, holds_state}
use Rattle.occ_complete_states.specs.occ_target_laws.Shapes.{numbered}
use Rattle.occ_engine.proofs.from_syntax.Widths.{same_as_itself}

-- ---- conditions are typed

test_typed : (Γ : Environment) (x : ℕ) (w : Width) (v : ℕ) → variable_width Γ x ≡ Some w → is_width w ≡ true → v < 2 ^ bits_of w
    → type_of Γ (is_at x w v) ≡ Some TruthValue
test_typed Γ x w v h k l =
    (λ i. type_of_two Equal (h i) (constant_type Γ w v k l i)) ∙ if_true (same_width w w) (type_given Equal w) None (same_as_itself w)

joined_typed : (Γ : Environment) (S : List (Name × Kind)) (state : List (Name × ℕ)) (e : Exp) → AllByRecursion (IsListed Γ) S → AllByRecursion IsWide S
    → is_state S state ≡ true → type_of Γ e ≡ Some TruthValue → type_of Γ (joined e (tests S state)) ≡ Some TruthValue
joined_typed Γ [] state e listed wide is t = t
joined_typed Γ ((name, Chan w d) ∷ S) state e listed wide is t = joined_typed Γ S state e listed.1 wide.1 is t
joined_typed Γ ((name, Var w) ∷ S) [] e listed wide is t = false_not_true is
joined_typed Γ ((name, Var w) ∷ S) (v ∷ state) e listed wide is t =
    let both = and_parts (v.0.0 == name.0 && nat_lt v.1 (2 ^ bits_of w)) (is_state S state) is in
    let below = ltb-true v.1 (2 ^ bits_of w) (and_parts (v.0.0 == name.0) (nat_lt v.1 (2 ^ bits_of w)) both.0).1 in
    joined_typed Γ S state (operation And e (is_at name.0 w v.1)) listed.1 wide.1 both.1
    (λ i. type_of_two And (t i) (test_typed Γ name.0 w v.1 (ap variable_kind listed.0) wide.0 below i))

condition_typed : (Γ : Environment) (S : List (Name × Kind)) (state : List (Name × ℕ)) → AllByRecursion (IsListed Γ) S → AllByRecursion IsWide S
    → is_state S state ≡ true → type_of Γ (condition S state) ≡ Some TruthValue
condition_typed Γ [] state listed wide is = refl
condition_typed Γ ((name, Chan w d) ∷ S) state listed wide is = condition_typed Γ S state listed.1 wide.1 is
condition_typed Γ ((name, Var w) ∷ S) [] listed wide is = false_not_true is
condition_typed Γ ((name, Var w) ∷ S) (v ∷ state) listed wide is =
    let both = and_parts (v.0.0 == name.0 && nat_lt v.1 (2 ^ bits_of w)) (is_state S state) is in
    let below = ltb-true v.1 (2 ^ bits_of w) (and_parts (v.0.0 == name.0) (nat_lt v.1 (2 ^ bits_of w)) both.0).1 in
    joined_typed Γ S state (is_at name.0 w v.1) listed.1 wide.1 both.1 (test_typed Γ name.0 w v.1 (ap variable_kind listed.0) wide.0 below)

-- ---- lists

front_listed : (P : Name × Kind → Type 0) (S I : List (Name × Kind)) → AllByRecursion P (S ++ I) → AllByRecursion P S
front_listed P [] I all = tt
front_listed P (s ∷ S) I all = (all.0, front_listed P S I all.1)

-- a state says 0 of other variables
other_zero : (S : List (Name × Kind)) (state : List (Name × ℕ)) → is_state S state ≡ true → (x : ℕ) → is_in (variables S) x ≡ false → values state x ≡ 0
other_zero [] [] is x h = refl
other_zero [] (v ∷ state) is x h = false_not_true is
other_zero ((name, Chan w d) ∷ S) state is x h = other_zero S state is x h
other_zero ((name, Var w) ∷ S) [] is x h = false_not_true is
other_zero ((name, Var w) ∷ S) (v ∷ state) is x h =
    let both = and_parts (v.0.0 == name.0 && nat_lt v.1 (2 ^ bits_of w)) (is_state S state) is in
    let same : v.0.0 ≡ name.0 = eqb-true v.0.0 name.0 (and_parts (v.0.0 == name.0) (nat_lt v.1 (2 ^ bits_of w)) both.0).0 in
    let p = or_parts (x == name.0) (is_in (variables S) x) h in
    value_off (values state) v.0.0 v.1 x (ap (λ n. x == n) same ∙ p.0) ∙ other_zero S state both.1 x p.1

facts_cleared : (I : List (Name × Kind)) (s : Values) → AllByRecursion (λ (t : Name × Kind). s t.0.0 ≡ 0) I → facts I s ≡ cleared I
facts_cleared [] s all = refl
facts_cleared ((name, Chan w d) ∷ I) s all = facts_cleared I s all.1
facts_cleared ((name, Var w) ∷ I) s all = λ i. constant w (all.0 i) ∷ facts_cleared I s all.1 i

-- a list of one process
abbrev pub all_same : ℕ → Tree → List Tree
all_same zero p = []
all_same (suc m) p = p ∷ all_same m p

copies_are : (test : ℕ → Exp) (k m : ℕ) (p : Tree) → copies (tests_from test k m) p ≡ numbered test k (all_same m p)
copies_are test k zero p = refl
copies_are test k (suc m) p = ap (and_case (test k) p) (copies_are test (k + 1) m p)

cases_over : (front : Cases) (b : Exp) (p : Tree) (cs : Cases) → all_cases (all_cases front (and_case b p no_case)) cs ≡ all_cases front (and_case b p cs)
cases_over no_case b p cs = refl
cases_over (and_case c q front) b p cs = ap (and_case c q) (cases_over front b p cs)

own_append : (S : List (Name × Kind)) (es fs : List Exp) → NameOwn S es → NameOwn S fs → NameOwn S (es ++ fs)
own_append S [] fs f g = g
own_append S (e ∷ es) fs f g =
    own_more S e (es ++ fs) (λ x h. f x (or_left _ (some_names es x) h)) (own_append S es fs (λ x h. f x (or_right _ (some_names es x) h)) g)

-- ---- the table

module _ (S I : List (Name × Kind)) (kept : scope_kept (S ++ I) ≡ true) (filled : is_pair (variables (S ++ I)) ≡ true)
    (few : bits_of_scope S ≤ 16) (apart : AllByRecursion (λ (t : Name × Kind). is_in (variables S) t.0.0 ≡ false) I) (front_kept : scope_kept S ≡ true) where
  abbrev scope : List (Name × Kind)
  scope = S ++ I

  -- the k-th state
  abbrev pub start : ℕ → Values
  start k = values (state_at_place S k)

  abbrev pub test : ℕ → Exp
  test k = condition S (state_at_place S k)

  abbrev zs : List ℕ
  zs = variables scope

  abbrev gs : List Exp
  gs = own_values (variables S) ++ cleared I

  start_holds : (k : ℕ) → Holds S (state_at_place S k) (start k)
  start_holds k = holds_itself S front_kept (state_at_place S k) (place_is_state S k)

  pub zeros_there : (k : ℕ) (J : List (Name × Kind)) → AllByRecursion (λ (t : Name × Kind). is_in (variables S) t.0.0 ≡ false) J
      → AllByRecursion (λ (t : Name × Kind). start k t.0.0 ≡ 0) J
  zeros_there k [] all = tt
  zeros_there k (t ∷ J) all = (other_zero S (state_at_place S k) (place_is_state S k) t.0.0 all.0, zeros_there k J all.1)

  each_own : (k : ℕ) (front : List Exp) → NameOwn S front → k < 2 ^ bits_of_scope S → AllByRecursion (IsHeld (start k)) S
      → (U : List (Name × Kind)) → ((x : ℕ) → is_in (variables U) x ≡ true → is_in (variables S) x ≡ true) → AllByRecursion (IsHeld (start k)) U
      → {es fs : List Exp} → EachEqual (IsEqualWhere scope (test k) front) es fs
      → EachEqual (IsEqualWhere scope (test k) front) (own_values (variables U) ++ es) (facts U (start k) ++ fs)
  each_own k front own low heldS [] within held more = more
  each_own k front own low heldS ((name, Chan w d) ∷ U) within held more = each_own k front own low heldS U within held.1 more
  each_own k front own low heldS ((name, Var w) ∷ U) within held more =
      let there : is_in (variables S) name.0 ≡ true = within name.0 (or_left (name.0 == name.0) (is_in (variables U) name.0) (at_itself name.0)) in
      let all_own : NameOwn S (variable name.0 ∷ constant w (start k name.0) ∷ test k ∷ front) =
      own_more S (variable name.0) (constant w (start k name.0) ∷ test k ∷ front) (variable_own S name.0 there)
      (own_more S (constant w (start k name.0)) (test k ∷ front) (constant_own S w (start k name.0))
      (own_more S (test k) front (condition_own S (state_at_place S k)) own)) in
      and_place
      (record {
        few = own_few S I (variable name.0 ∷ constant w (start k name.0) ∷ test k ∷ front) apart few all_own;
        equal = λ s is yes no. (
            let heldin = all_held (environment S) S s (state_front S I s is) (all_listed S front_kept) in
            holds_same S (state_at_place S k) s (start k) (true_holds (environment scope) S s k heldin low yes) (start_holds k) name.0 there
            ∙ sym (constant_value (environment scope) s w (start k name.0) held.0)
            );
      })
      (each_own k front own low heldS U (λ x h. within x (or_right (x == name.0) (is_in (variables U) x) h)) held.1 more)

  each_cleared : (k : ℕ) (front : List Exp) → NameOwn S front → (J : List (Name × Kind)) → EachEqual (IsEqualWhere scope (test k) front) (cleared J) (cleared J)
  each_cleared k front own [] = no_place
  each_cleared k front own ((name, Chan w d) ∷ J) = each_cleared k front own J
  each_cleared k front own ((name, Var w) ∷ J) =
      and_place
      (record {
        few = own_few S I (constant w 0 ∷ constant w 0 ∷ test k ∷ front) apart few
            (own_more S (constant w 0) (constant w 0 ∷ test k ∷ front) (constant_own S w 0)
            (own_more S (constant w 0) (test k ∷ front) (constant_own S w 0) (own_more S (test k) front (condition_own S (state_at_place S k)) own)));
        equal = λ s is yes no. refl;
      })
      (each_cleared k front own J)

  pub start_state : (k : ℕ) → IsState (environment S) (start k)
  start_state k = holds_state S (state_at_place S k) (place_is_state S k) (start k) (start_holds k)

  each_equal : (k : ℕ) (front : List Exp) → NameOwn S front → k < 2 ^ bits_of_scope S → EachEqual (IsEqualWhere scope (test k) front) gs (facts scope (start k))
  each_equal k front own low =
      let held = all_held (environment S) S (start k) (start_state k) (all_listed S front_kept) in
      let same : facts scope (start k) ≡ facts S (start k) ++ cleared I =
      facts_append S I (start k) ∙ ap (λ l. facts S (start k) ++ l) (facts_cleared I (start k) (zeros_there k I apart)) in
      subst (EachEqual (IsEqualWhere scope (test k) front) gs) (sym same)
      (each_own k front own low held S (λ x h. h) held (each_cleared k front own I))

  -- each choice tells its state
  abbrev pub tolds : ℕ → ℕ → List Tree
  tolds k zero = []
  tolds k (suc m) = told scope (start k) ∷ tolds (k + 1) m

  module _ (told_kept : (k : ℕ) → Keeps (environment scope) (told scope (start k))) where
    choices_told : (front : Cases) → NameOwn S (conditions front) → (k m : ℕ) → k + m ≤ 2 ^ bits_of_scope S
        → Keeps (environment scope) (select (all_cases front (numbered test k (all_same m (assign zs gs)))))
        → Leads scope (select (all_cases front (numbered test k (all_same m (assign zs gs))))) (select (all_cases front (numbered test k (tolds k m))))
    choices_told front own k zero low keeps = leads_itself scope (select (all_cases front no_case))
    choices_told front own k (suc m) low keeps =
        let rest = numbered test (k + 1) (all_same m (assign zs gs)) in
        let law = under_law scope front rest (test k) zs gs (facts scope (start k)) (each_equal k (conditions front) own (omega (arith, low))) (told_kept k) keeps in
        let next = all_cases front (and_case (test k) (told scope (start k)) no_case) in
        let over = cases_over front (test k) (told scope (start k)) rest in
        let own_next : NameOwn S (conditions next) =
        subst (NameOwn S) (sym (conditions_append front (and_case (test k) (told scope (start k)) no_case)))
        (own_append S (conditions front) (test k ∷ []) own (own_more S (test k) [] (condition_own S (state_at_place S k)) (λ x h. false_not_true h))) in
        let more = choices_told next own_next (k + 1) m (omega (arith, low)) (subst (λ c. Keeps (environment scope) (select c)) (sym over) law.right) in
        leads_on scope (law_leads scope 25 law)
        (subst (λ c. Leads scope (select c) (select (all_cases front (numbered test k (tolds k (suc m)))))) over
        (subst (λ c. Leads scope (select (all_cases next rest)) (select c)) (cases_over front (test k) (told scope (start k)) (numbered test (k + 1) (tolds (k + 1) m))) more))

    all_typed : (k m : ℕ) → are_conditions (environment scope) (tests_from test k m) ≡ true
    all_typed k zero = refl
    all_typed k (suc m) =
        let listed = front_listed (IsListed (environment scope)) S I (all_listed scope kept) in
        let wide = front_listed IsWide S I (all_wide scope kept) in
        and_from (is_condition (environment scope) (test k)) (are_conditions (environment scope) (tests_from test (k + 1) m))
        (ap (λ o. agree o (Some TruthValue)) (condition_typed (environment scope) S (state_at_place S k) listed wide (place_is_state S k))) (all_typed (k + 1) m)

    tests_own_all : (k m : ℕ) → NameOwn S (tests_from test k m)
    tests_own_all k zero = λ x h. false_not_true h
    tests_own_all k (suc m) = own_more S (test k) (tests_from test (k + 1) m) (condition_own S (state_at_place S k)) (tests_own_all (k + 1) m)

    pub becomes_table : Keeps (environment scope) (assign zs gs)
        → Leads scope (assign zs gs) (select (numbered test 0 (tolds 0 (2 ^ bits_of_scope S))))
    becomes_table keeps =
        let size = 2 ^ bits_of_scope S in
        let law = copy_law scope (assign zs gs) (tests_from test 0 size) (own_few S I (tests_from test 0 size) apart few (tests_own_all 0 size))
        (λ s is. states_exhaustive (environment scope) S s (all_held (environment S) S s (state_front S I s is) (all_listed S front_kept)))
        (all_typed 0 size) keeps in
        let same = copies_are test 0 size (assign zs gs) in
        leads_on scope (subst (λ c. Leads scope (assign zs gs) (select c)) same (law_leads scope 24 law))
        (choices_told no_case (λ x h. false_not_true h) 0 size (omega arith) (subst (λ c. Keeps (environment scope) (select c)) same law.right))
