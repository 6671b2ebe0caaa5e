-- An assignment of a variable to itself as an IF over its values, which assigns each of them.
use Rattle.std.proofs.Common.{◌≡◌, ◌∙◌, ◌++◌, ◌==◌, ◌+◌, ◌<◌, ◌≤◌, ◌^◌, ℕ, zero, suc, false, true, List, [], ◌∷◌, None, Some, refl, sym, ap, subst, inl, inr, arith}
use Rattle.std.proofs.lemmas.Bool.{and_from, cases_lt, eqb-true, eq-eqb, or_cases, or_left, or_right}
use Rattle.occ_derive_laws.specs.occ_base.declared.names.Name.{Name}
use Rattle.occ_derive_laws.specs.occ_base.declared.width.Width.{Width}
use Rattle.occ_derive_laws.specs.occ_base.declared.width.Width.TheVariants.{Bool as TruthValue}
use Rattle.occ_derive_laws.specs.occ_base.Width.{bits_of}
use Rattle.occ_derive_laws.specs.occ_bits.Named.{are_conditions}
use Rattle.occ_derive_laws.proofs.Conditions.{conditions_append}
use Rattle.occ_derive_laws.proofs.IfHolding.{copy_law, under_law}
use Rattle.occ_derive_laws.proofs.Opened.{agree_both}
use Rattle.occ_derive_laws.proofs.Behind.{if_law}
use Rattle.occ_derive_laws.proofs.Few.{variables_few}
use Rattle.occ_derive_laws.proofs.Pairs.{and_pair, assign_keeps, id_law_back}
use Rattle.occ_derive_laws.proofs.Turns.{one_law_back, skip_law_back}
use Rattle.occ_complete_states.proofs.Leading.{first_leads, law_leads, law_leads_back, leads_itself, leads_keep, leads_on}
use Rattle.occ_complete_states.specs.Leads.{Leads}
use Rattle.occ_complete_states.proofs.Facts.{constant_type, constant_unnamed}
use Rattle.occ_derive_laws.specs.occ_law.Choice.{copies}
use Rattle.occ_derive_laws.specs.occ_law.Lists.{all_cases, conditions}
use Rattle.occ_derive_laws.specs.occ_law.Sequence.{each_case_before}
use Rattle.occ_derive_laws.specs.occ_law.States.{AreFew, EachEqual, IsEqualWhere, and_place, no_place, some_true}
use Rattle.occ_derive_laws.proofs.from_meaning.Facts.{false_not_true, if_true, true_not_false}
use Rattle.occ_derive_laws.specs.occ_meaning.Parallel.{one, two}
use Rattle.occ_derive_laws.specs.occ_syntax.declared.expr.Op.TheVariants.{Equal}
use Rattle.occ_derive_laws.specs.occ_syntax.declared.scope.Kind.{Kind}
use Rattle.occ_derive_laws.specs.occ_syntax.Eval.{is_true}
use Rattle.occ_derive_laws.specs.occ_syntax.Names.{is_in, names, some_names}
use Rattle.occ_derive_laws.specs.occ_syntax.Scopes.{Environment, Values, environment, variable_width}
use Rattle.occ_derive_laws.specs.occ_syntax.Tree.{Cases, Exp, Tree, and_case, assign, no_case, no_tree, select, seq, variable}
use Rattle.occ_derive_laws.specs.occ_syntax.Types.{agree, is_condition, is_width, same_width, scope_kept, type_of, type_of_two}
use Rattle.occ_derive_laws.specs.occ_syntax.Usage.{Keeps}
use Rattle.occ_derive_laws.specs.occ_target.States.{constant, is_at}
use Rattle.occ_derive_laws.proofs.from_target_laws.Following.{constant_value, test_tells}
use Rattle.occ_derive_laws.specs.occ_target_laws.Shapes.{numbered}
use Rattle.occ_derive_laws.proofs.from_syntax.Widths.{same_as_itself}

-- ---- lists over values

-- the variable gets a value
abbrev pub gets : ℕ → Width → ℕ → Tree
gets t w v = assign (t ∷ []) (constant w v ∷ [])

-- the variable keeps its value
abbrev stays : ℕ → Tree
stays t = assign (t ∷ []) (variable t ∷ [])

-- the conditions of some values in their order
abbrev conditions_of : (ℕ → Exp) → ℕ → ℕ → List Exp
conditions_of test k zero = []
conditions_of test k (suc m) = test k ∷ conditions_of test (k + 1) m

-- the processes for them
abbrev pub processes_of : (ℕ → Tree) → ℕ → ℕ → List Tree
processes_of f k zero = []
processes_of f k (suc m) = f k ∷ processes_of f (k + 1) m

copies_are : (test : ℕ → Exp) (p : Tree) (k m : ℕ) → copies (conditions_of test k m) p ≡ numbered test k (processes_of (λ v. p) k m)
copies_are test p k zero = refl
copies_are test p k (suc m) = ap (and_case (test k) p) (copies_are test p (k + 1) m)

each_before : (test : ℕ → Exp) (f : ℕ → Tree) (p : Tree) (k m : ℕ)
    → each_case_before (numbered test k (processes_of f k m)) (one p) ≡ numbered test k (processes_of (λ v. seq (two (f v) p)) k m)
each_before test f p k zero = refl
each_before test f p k (suc m) = ap (and_case (test k) (seq (two (f k) p))) (each_before test f p (k + 1) m)

one_over : (front : Cases) (b : Exp) (p : Tree) (cs : Cases) → all_cases (all_cases front (and_case b p no_case)) cs ≡ all_cases front (and_case b p cs)
one_over no_case b p cs = refl
one_over (and_case c q front) b p cs = ap (and_case c q) (one_over front b p cs)

-- ---- expressions that name one variable

abbrev NameOne : ℕ → List Exp → Type 0
NameOne t es = (x : ℕ) → some_names es x ≡ true → is_in (t ∷ []) x ≡ true

one_more : (t : ℕ) (e : Exp) (es : List Exp) → ((x : ℕ) → names e x ≡ true → is_in (t ∷ []) x ≡ true) → NameOne t es → NameOne t (e ∷ es)
one_more t e es f g x h = elim (or_cases (names e x) (some_names es x) h) [ inl i ↦ f x i | inr i ↦ g x i ]

both_one : (t : ℕ) (es fs : List Exp) → NameOne t es → NameOne t fs → NameOne t (es ++ fs)
both_one t [] fs f g = g
both_one t (e ∷ es) fs f g =
    one_more t e (es ++ fs) (λ x h. f x (or_left (names e x) (some_names es x) h)) (both_one t es fs (λ x h. f x (or_right (names e x) (some_names es x) h)) g)

value_one : (t : ℕ) (w : Width) (v x : ℕ) → names (constant w v) x ≡ true → is_in (t ∷ []) x ≡ true
value_one t w v x e = true_not_false (sym e ∙ constant_unnamed w v x)

test_one : (t : ℕ) (w : Width) (v x : ℕ) → names (is_at t w v) x ≡ true → is_in (t ∷ []) x ≡ true
test_one t w v x h = elim (or_cases (x == t) (names (constant w v) x) h) [ inl i ↦ or_left (x == t) false i | inr i ↦ value_one t w v x i ]

all_one : (t : ℕ) (w : Width) (k m : ℕ) → NameOne t (conditions_of (is_at t w) k m)
all_one t w k zero = λ x h. false_not_true h
all_one t w k (suc m) = one_more t (is_at t w k) (conditions_of (is_at t w) (k + 1) m) (test_one t w k) (all_one t w (k + 1) m)

-- ---- one of the conditions holds

some_holds : (Γ : Environment) (s : Values) (t : ℕ) (w : Width) (k m : ℕ) → k ≤ s t → s t < k + m → s t < 2 ^ bits_of w
    → some_true Γ (conditions_of (is_at t w) k m) s ≡ true
some_holds Γ s t w k zero low high small = absurd (omega (arith, low, high))
some_holds Γ s t w k (suc m) low high small =
    elim (cases_lt k (s t)) [
      | inl l ↦ or_right (is_true Γ (is_at t w k) s) (some_true Γ (conditions_of (is_at t w) (k + 1) m) s)
          (some_holds Γ s t w (k + 1) m (omega (arith, l)) (omega (arith, high)) small)
      | inr l ↦ or_left (is_true Γ (is_at t w k) s) (some_true Γ (conditions_of (is_at t w) (k + 1) m) s)
          (test_tells Γ s t w k (omega (arith, l, small)) ∙ eq-eqb (s t) k (omega (arith, low, l)))
    ]

-- ---- the IF

module _ (S : List (Name × Kind)) (kept : scope_kept S ≡ true) (t : ℕ) (w : Width) (wide : is_width w ≡ true) (et : variable_width (environment S) t ≡ Some w) where
  pub gets_keeps : (v : ℕ) → v < 2 ^ bits_of w → Keeps (environment S) (gets t w v)
  gets_keeps v small = assign_keeps (environment S) (t ∷ []) (constant w v ∷ []) refl (and_pair (environment S) t [] (constant w v) [] (record {
    typed = agree_both (variable_width (environment S) t) (type_of (environment S) (constant w v)) w et (constant_type (environment S) w v wide small);
    once = refl;
    rest = refl;
  }))

  few : (es : List Exp) → NameOne t es → AreFew S es
  few es n = variables_few S es (t ∷ []) kept (omega arith) n

  same_value : (k : ℕ) (front : List Exp) → NameOne t front → k < 2 ^ bits_of w
      → EachEqual (IsEqualWhere S (is_at t w k) front) (variable t ∷ []) (constant w k ∷ [])
  same_value k front n small = and_place (record {
    few = few (variable t ∷ constant w k ∷ is_at t w k ∷ front)
        (one_more t (variable t) (constant w k ∷ is_at t w k ∷ front) (λ x h. or_left (x == t) false h)
        (one_more t (constant w k) (is_at t w k ∷ front) (value_one t w k) (one_more t (is_at t w k) front (test_one t w k) n)));
    equal = λ s state yes no. eqb-true (s t) k (sym (test_tells (environment S) s t w k small) ∙ yes) ∙ sym (constant_value (environment S) s w k small);
  }) no_place

  choices_told : (front : Cases) → NameOne t (conditions front) → (k m : ℕ) → k + m ≤ 2 ^ bits_of w
      → Keeps (environment S) (select (all_cases front (numbered (is_at t w) k (processes_of (λ v. stays t) k m))))
      → Leads S (select (all_cases front (numbered (is_at t w) k (processes_of (λ v. stays t) k m)))) (select (all_cases front (numbered (is_at t w) k (processes_of (gets t w) k m))))
  choices_told front n k zero low keeps = leads_itself S (select (all_cases front no_case))
  choices_told front n k (suc m) low keeps =
      let rest = numbered (is_at t w) (k + 1) (processes_of (λ v. stays t) (k + 1) m) in
      let done = numbered (is_at t w) (k + 1) (processes_of (gets t w) (k + 1) m) in
      let small : k < 2 ^ bits_of w = omega (arith, low) in
      let law = under_law S front rest (is_at t w k) (t ∷ []) (variable t ∷ []) (constant w k ∷ []) (same_value k (conditions front) n small) (gets_keeps k small) keeps in
      let next = all_cases front (and_case (is_at t w k) (gets t w k) no_case) in
      let over = one_over front (is_at t w k) (gets t w k) rest in
      let named : NameOne t (conditions next) =
      subst (NameOne t) (sym (conditions_append front (and_case (is_at t w k) (gets t w k) no_case)))
      (both_one t (conditions front) (is_at t w k ∷ []) n (one_more t (is_at t w k) [] (test_one t w k) (λ x h. false_not_true h))) in
      let more = choices_told next named (k + 1) m (omega (arith, low)) (subst (λ c. Keeps (environment S) (select c)) (sym over) law.right) in
      leads_on S (law_leads S 25 law)
      (subst (λ c. Leads S (select c) (select (all_cases front (and_case (is_at t w k) (gets t w k) done)))) over
      (subst (λ c. Leads S (select (all_cases next rest)) (select c)) (one_over front (is_at t w k) (gets t w k) done) more))

  test_typed : (v : ℕ) → v < 2 ^ bits_of w → is_condition (environment S) (is_at t w v) ≡ true
  test_typed v small =
      ap (λ o. agree o (Some TruthValue)) ((λ i. type_of_two Equal (et i) (constant_type (environment S) w v wide small i)) ∙ if_true (same_width w w) (Some TruthValue) None (same_as_itself w))

  all_typed : (k m : ℕ) → k + m ≤ 2 ^ bits_of w → are_conditions (environment S) (conditions_of (is_at t w) k m) ≡ true
  all_typed k zero low = refl
  all_typed k (suc m) low =
      and_from (is_condition (environment S) (is_at t w k)) (are_conditions (environment S) (conditions_of (is_at t w) (k + 1) m))
      (test_typed k (omega (arith, low))) (all_typed (k + 1) m (omega (arith, low)))

  stays_by_values : Keeps (environment S) (stays t) → Leads S (stays t) (select (numbered (is_at t w) 0 (processes_of (gets t w) 0 (2 ^ bits_of w))))
  stays_by_values keeps =
      let size = 2 ^ bits_of w in
      let tests = conditions_of (is_at t w) 0 size in
      let law = copy_law S (stays t) tests (few tests (all_one t w 0 size))
      (λ s state. (let small = state t w et in some_holds (environment S) s t w 0 size (omega arith) (omega (arith, small)) small)) (all_typed 0 size (omega arith)) keeps in
      let same = copies_are (is_at t w) (stays t) 0 size in
      leads_on S (subst (λ c. Leads S (stays t) (select c)) same (law_leads S 24 law))
      (choices_told no_case (λ x h. false_not_true h) 0 size (omega arith) (subst (λ c. Keeps (environment S) (select c)) same law.right))

  -- a part behind each value of the variable
  pub by_values : (p : Tree) → Keeps (environment S) p
      → Leads S p (select (numbered (is_at t w) 0 (processes_of (λ v. seq (two (gets t w v) p)) 0 (2 ^ bits_of w))))
  by_values p k =
      let size = 2 ^ bits_of w in
      let alone = one_law_back S p k in
      let idle = skip_law_back S no_tree (one p) alone.left in
      let own = id_law_back S (t ∷ []) refl ((w, et), refl, tt) in
      let front : Leads S p (seq (two (stays t) p)) = leads_on S (law_leads_back S 2 alone) (leads_on S (law_leads_back S 4 idle) (first_leads S (one p) (law_leads_back S 6 own))) in
      let values = first_leads S (one p) (stays_by_values own.left) in
      let cs = numbered (is_at t w) 0 (processes_of (gets t w) 0 size) in
      let kept_so = leads_keep S kept k (leads_on S front values) in
      leads_on S front (leads_on S values
      (subst (λ c. Leads S (seq (two (select cs) p)) (select c)) (each_before (is_at t w) (gets t w) p 0 size) (law_leads S 12 (if_law S cs (one p) kept_so))))
