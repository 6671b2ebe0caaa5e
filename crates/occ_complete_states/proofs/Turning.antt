-- An input goes into the header's variable of its width, and the variable that it changed has what that one held.
use Rattle.std.proofs.Common.{arith, ◌≡◌, ◌∙◌, ℕ, ◌+◌, ◌<◌, ◌≤◌, ◌^◌, Bool, true, false, ◌||◌, ◌&&◌, cond, eqb, ◌==◌, if◌then◌else◌, List, [], ◌∷◌, ◌++◌, Option, Some, None, refl, sym, ap, subst, map}
use Rattle.std.proofs.lemmas.Bool.{eqb-true, or_cases, or_from, or_left, or_right}
use Rattle.std.specs.List.{AllByRecursion}
use Rattle.occ_derive_laws.specs.occ_base.declared.event.Dir.TheVariants.{Input, Output}
use Rattle.occ_derive_laws.specs.occ_base.declared.names.Name.{Name}
use Rattle.occ_derive_laws.specs.occ_base.declared.width.Width.{Width}
use Rattle.occ_derive_laws.specs.occ_base.Width.{bits_of}
use Rattle.occ_complete_states.proofs.Evaluating.{wide_entry}
use Rattle.occ_derive_laws.proofs.Each.{Each, each_all, each_behind, each_front}
use Rattle.occ_derive_laws.proofs.Keeping.{IsKept, each_kept, kept_each}
use Rattle.occ_derive_laws.proofs.Declared.{unused_comes, unused_goes}
use Rattle.occ_derive_laws.proofs.Inputs.{input_at_once, may_pass, passed_on}
use Rattle.occ_derive_laws.proofs.Opened.{agree_both}
use Rattle.occ_derive_laws.proofs.Pairs.{and_pair, assign_keeps, assign_pairs}
use Rattle.occ_derive_laws.proofs.Turns.{first_keeps, flat_law, flat_law_back, none_keeps, rest_keeps, with_first}
use Rattle.occ_complete_states.proofs.Fresh.{fresh_name}
use Rattle.occ_complete_states.proofs.Leading.{declared_leads, first_leads, law_leads, law_leads_back, leads_keep, leads_on}
use Rattle.occ_complete_states.proofs.Pointwise.{branch_leads}
use Rattle.occ_complete_states.proofs.Scopes.{declared_keeps}
use Rattle.occ_complete_states.specs.Leads.{Leads}
use Rattle.occ_complete_states.specs.States.{facts, facts_given, told, told_given}
use Rattle.occ_complete_states.proofs.Beginning.{both_join, constant_stays, fact_at, first_in_one, sides_agree, unlisted_stands, value_for_map, variable_in}
use Rattle.occ_complete_states.proofs.Facts.{IsHeld, IsListed, all_held, all_listed, all_wide, constant_type, kept_rest, new_first, no_width, not_variable}
use Rattle.occ_complete_states.specs.Telling.{IsTold}
use Rattle.occ_derive_laws.specs.occ_law.Lists.{all_branches, assigned_without, assignment, names_without, values_without}
use Rattle.occ_derive_laws.proofs.from_meaning.Facts.{at_itself, false_not_true, none_not_some, some_is}
use Rattle.occ_derive_laws.proofs.from_meaning.InScope.{free_in_scope}
use Rattle.occ_derive_laws.specs.occ_meaning.Parallel.{one, two}
use Rattle.occ_derive_laws.specs.occ_meaning.Substitution.{substituted, value_for}
use Rattle.occ_derive_laws.proofs.from_script_lines.Scoping.{scope_kept-push}
use Rattle.occ_derive_laws.specs.occ_syntax.declared.scope.Kind.{Kind}
use Rattle.occ_derive_laws.specs.occ_syntax.declared.scope.Kind.TheVariants.{Chan, Var}
use Rattle.occ_derive_laws.specs.occ_syntax.Names.{is_in}
use Rattle.occ_derive_laws.specs.occ_syntax.Scopes.{Environment, Values, allows, channel_width, environment, variable_kind, variable_width, with_name}
use Rattle.occ_derive_laws.specs.occ_syntax.Tree.{Branches, Exp, Tree, Waiting, alt, and_branch, assign, declare, input, no_tree, seq, truth, variable}
use Rattle.occ_derive_laws.specs.occ_syntax.Types.{agree, input_kept, is_pair, is_width, pairs_kept, scope_kept, type_of, types_kept}
use Rattle.occ_derive_laws.specs.occ_syntax.Usage.{Keeps}
use Rattle.occ_derive_laws.specs.occ_target.States.{constant, variables}
use Rattle.occ_derive_laws.proofs.from_usage.Scoped.{environment-push}

-- ---- an assignment without a variable

turned_eqb : (x y : ℕ) → (x == y) ≡ false → (y == x) ≡ false
turned_eqb x y e = at (y == x) refl
  where
    at : (b : Bool) → (y == x) ≡ b → b ≡ false
    at true f = false_not_true (sym e ∙ (ap (λ z. x == z) (eqb-true y x f) ∙ at_itself x))
    at false f = refl

without_for : (xs : List ℕ) (es : List Exp) (x u : ℕ) → (x == u) ≡ false → value_for (names_without x xs) (values_without x xs es) u ≡ value_for xs es u
without_for [] es x u n = refl
without_for (y ∷ ys) [] x u n = at (x == y)
  where
    at : (b : Bool) → value_for (if b then names_without x ys else y ∷ names_without x ys) [] u ≡ variable u
    at true = nothing (names_without x ys)
      where
        nothing : (zs : List ℕ) → value_for zs [] u ≡ variable u
        nothing [] = refl
        nothing (z ∷ zs) = refl
    at false = refl
without_for (y ∷ ys) (e ∷ es) x u n = at (x == y) refl (without_for ys es x u n)
  where
    at : (b : Bool) → (x == y) ≡ b → value_for (names_without x ys) (values_without x ys es) u ≡ value_for ys es u
        → value_for (if b then names_without x ys else y ∷ names_without x ys) (if b then values_without x ys es else e ∷ values_without x ys es) u ≡ (if u == y then e else value_for ys es u)
    at true f ih = ih ∙ ap (λ c. if c then e else value_for ys es u) (sym (turned_eqb y u (subst (λ z. (z == u) ≡ false) (eqb-true x y f) n)))
    at false f ih = ap (λ r. if u == y then e else r) ih

not_within : (xs : List ℕ) (x : ℕ) → is_in (names_without x xs) x ≡ false
not_within [] x = refl
not_within (y ∷ ys) x = at (x == y) refl (not_within ys x)
  where
    at : (b : Bool) → (x == y) ≡ b → is_in (names_without x ys) x ≡ false → is_in (if b then names_without x ys else y ∷ names_without x ys) x ≡ false
    at true f ih = ih
    at false f ih = or_from (x == y) (is_in (names_without x ys) x) f ih

in_without : (xs : List ℕ) (x t : ℕ) → (x == t) ≡ false → is_in xs t ≡ true → is_in (names_without x xs) t ≡ true
in_without [] x t n e = false_not_true e
in_without (y ∷ ys) x t n e = at (x == y) refl (t == y) refl e (λ f. in_without ys x t n f)
  where
    at : (b : Bool) → (x == y) ≡ b → (c : Bool) → (t == y) ≡ c → (c || is_in ys t) ≡ true → (is_in ys t ≡ true → is_in (names_without x ys) t ≡ true)
        → is_in (if b then names_without x ys else y ∷ names_without x ys) t ≡ true
    at true f true g k further = false_not_true (sym n ∙ (ap (λ z. x == z) (eqb-true t y g) ∙ f))
    at true f false g k further = further k
    at false f true g k further = or_left (t == y) (is_in (names_without x ys) t) g
    at false f false g k further = or_right (t == y) (is_in (names_without x ys) t) (further k)

some_in : (xs : List ℕ) (t : ℕ) → is_in xs t ≡ true → is_pair xs ≡ true
some_in [] t e = false_not_true e
some_in (x ∷ xs) t e = refl

as_assign : (xs : List ℕ) (es : List Exp) → is_pair xs ≡ true → assignment xs es ≡ assign xs es
as_assign [] es e = false_not_true e
as_assign (x ∷ xs) es e = refl

-- ---- the state but for one variable

pub given_at : (A : List (Name × Kind)) (s : Values) (x t u : ℕ) (w : Width) → environment A u ≡ Some (Var w)
    → value_for (variables A) (facts_given A s x t) u ≡ (if u == x then variable t else constant w (s u))
given_at [] s x t u w e = none_not_some e
given_at ((name, Chan v d) ∷ A) s x t u w e = at (eqb u name.0) e (λ f. given_at A s x t u w f)
  where
    at : (b : Bool) → cond b (Some (Chan v d)) (environment A u) ≡ Some (Var w)
        → (environment A u ≡ Some (Var w) → value_for (variables A) (facts_given A s x t) u ≡ (if u == x then variable t else constant w (s u)))
        → value_for (variables A) (facts_given A s x t) u ≡ (if u == x then variable t else constant w (s u))
    at true f further = none_not_some (ap variable_kind f)
    at false f further = further f
given_at ((name, Var v) ∷ A) s x t u w e = at (eqb u name.0) refl e (λ f. given_at A s x t u w f)
  where
    at : (b : Bool) → eqb u name.0 ≡ b → cond b (Some (Var v)) (environment A u) ≡ Some (Var w)
        → (environment A u ≡ Some (Var w) → value_for (variables A) (facts_given A s x t) u ≡ (if u == x then variable t else constant w (s u)))
        → (if b then (if name.0 == x then variable t else constant v (s name.0)) else value_for (variables A) (facts_given A s x t) u)
        ≡ (if u == x then variable t else constant w (s u))
    at true g f further =
        ap (λ k. if name.0 == x then variable t else constant k (s name.0)) (some_is (ap variable_kind f))
        ∙ ap (λ z. if z == x then variable t else constant w (s z)) (sym (eqb-true u name.0 g))
    at false g f further = further f

pub given_kept : (Γ : Environment) (U : List (Name × Kind)) (s : Values) (x t : ℕ) (w : Width) → variable_width Γ x ≡ Some w → variable_width Γ t ≡ Some w
    → scope_kept U ≡ true → AllByRecursion (IsListed Γ) U → AllByRecursion (IsHeld s) U → pairs_kept Γ (variables U) (facts_given U s x t) ≡ true
given_kept Γ [] s x t w ex et h l held = refl
given_kept Γ ((name, Chan v d) ∷ U) s x t w ex et h l held = given_kept Γ U s x t w ex et (kept_rest (name, Chan v d) U h) l.1 held.1
given_kept Γ ((name, Var v) ∷ U) s x t w ex et h l held =
    and_pair Γ name.0 (variables U) (if name.0 == x then variable t else constant v (s name.0)) (facts_given U s x t) (record {
      typed = at (name.0 == x) refl;
      once = not_variable U name.0 (new_first (name, Var v) U h);
      rest = given_kept Γ U s x t w ex et (kept_rest (name, Var v) U h) l.1 held.1;
    })
  where
    at : (b : Bool) → (name.0 == x) ≡ b → agree (variable_width Γ name.0) (type_of Γ (if b then variable t else constant v (s name.0))) ≡ true
    at true e = agree_both (variable_width Γ name.0) (variable_width Γ t) w (ap (variable_width Γ) (eqb-true name.0 x e) ∙ ex) et
    at false e = agree_both (variable_width Γ name.0) (type_of Γ (constant v (s name.0))) v (ap variable_kind l.0) (constant_type Γ v (s name.0) (all_wide ((name, Var v) ∷ U) h).0 held.0)

-- ---- a part behind one that becomes two

pub first_in_two : (T : List (Name × Kind)) (a b c p : Tree) → scope_kept T ≡ true → Keeps (environment T) (seq (two c p)) → Leads T c (seq (two a b))
    → Leads T (seq (two c p)) (seq (two a (seq (two b p))))
first_in_two T a b c p h k l =
    let first = first_leads T (one p) l in
    let flat = law_leads T 3 (flat_law T no_tree (two a b) (one p) (leads_keep T h k first)) in
    leads_on T first (leads_on T flat (law_leads_back T 3 (flat_law_back T (one a) (two b p) no_tree (leads_keep T h (leads_keep T h k first) flat))))

-- ---- one input

module _ (T : List (Name × Kind)) (s : Values) (i : IsTold T s) (x t : ℕ) (w : Width) (ex : variable_width (environment T) x ≡ Some w)
    (et : variable_width (environment T) t ≡ Some w) (apart : (x == t) ≡ false) (p : Tree) where
  -- what stands behind the input, before and after
  abbrev pub behind_other : Tree
  behind_other = seq (two (assigned_without x (variables T) (facts T s)) p)

  abbrev pub behind_given : Tree
  behind_given = seq (two (told_given T s x t) p)

  known_kind : (y : ℕ) → variable_width (environment T) y ≡ Some w → environment T y ≡ Some (Var w)
  known_kind y e = at (environment T y) e
    where
      at : (o : Option Kind) → variable_kind o ≡ Some w → o ≡ Some (Var w)
      at (Some (Var v)) f = ap (λ z. Some (Var z)) (some_is f)
      at (Some (Chan v d)) f = none_not_some f
      at None f = none_not_some f

  wide : is_width w ≡ true
  wide = wide_entry T x (Var w) i.scope (known_kind x ex)

  pub given_keeps : Keeps (environment T) p → Keeps (environment T) behind_given
  given_keeps k = with_first (environment T) (told_given T s x t) (one p)
      (assign_keeps (environment T) (variables T) (facts_given T s x t) i.filled
      (given_kept (environment T) T s x t w ex et i.scope (all_listed T i.scope) (all_held (environment T) T s i.state (all_listed T i.scope))))
      (with_first (environment T) p no_tree k (none_keeps (environment T)))

  others_there : is_pair (names_without x (variables T)) ≡ true
  others_there = some_in (names_without x (variables T)) t (in_without (variables T) x t apart (variable_in T t w (known_kind t et)))

  module _ (z : ℕ) (new : environment T z ≡ None) where
    abbrev L : List (Name × Kind)
    L = T ++ (record { 0 = z }, Var w) ∷ []

    longer : scope_kept L ≡ true
    longer = scope_kept-push T (record { 0 = z }) (Var w) i.scope new wide

    pushed : (y : ℕ) → environment L y ≡ cond (eqb y z) (Some (Var w)) (environment T y)
    pushed y = ap (λ Γ. Γ y) (environment-push T (record { 0 = z }) (Var w) new)

    away : (y : ℕ) → environment T y ≡ Some (Var w) → eqb y z ≡ false
    away y e = at (eqb y z) refl
      where
        at : (b : Bool) → eqb y z ≡ b → b ≡ false
        at true f = none_not_some (sym new ∙ (ap (environment T) (sym (eqb-true y z f)) ∙ e))
        at false f = refl

    still : (y : ℕ) → environment T y ≡ Some (Var w) → variable_width (environment L) y ≡ Some w
    still y e = ap variable_kind (pushed y ∙ (ap (λ b. cond b (Some (Var w)) (environment T y)) (away y e) ∙ e))

    new_width : variable_width (environment L) z ≡ Some w
    new_width = ap variable_kind (pushed z ∙ ap (λ b. cond b (Some (Var w)) (environment T z)) (at_itself z))

    listed : AllByRecursion (IsListed (environment L)) T
    listed = front T ((record { 0 = z }, Var w) ∷ []) (all_listed L longer)
      where
        front : (A B : List (Name × Kind)) → AllByRecursion (IsListed (environment L)) (A ++ B) → AllByRecursion (IsListed (environment L)) A
        front [] B all = tt
        front (a ∷ A) B all = (all.0, front A B all.1)

    passes : (y : ℕ) → environment T y ≡ Some (Var w) → Keeps (environment L) (assign (y ∷ []) (variable z ∷ []))
    passes y e = assign_keeps (environment L) (y ∷ []) (variable z ∷ []) refl (and_pair (environment L) y [] (variable z) [] (record {
      typed = agree_both (variable_width (environment L) y) (variable_width (environment L) z) w (still y e) new_width;
      once = refl;
      rest = refl;
    }))

    given_longer : Keeps (environment L) (told_given T s x t)
    given_longer = assign_keeps (environment L) (variables T) (facts_given T s x t) i.filled
        (given_kept (environment L) T s x t w (still x (known_kind x ex)) (still t (known_kind t et)) i.scope listed (all_held (environment T) T s i.state (all_listed T i.scope)))

    -- the two ways to the one assignment
    sides : (f1 b1 f2 b2 : ℕ → Exp) → ((y : ℕ) → f1 y ≡ value_for (x ∷ []) (variable z ∷ []) y)
        → ((y : ℕ) → b1 y ≡ value_for (names_without x (variables T)) (values_without x (variables T) (facts T s)) y)
        → ((y : ℕ) → f2 y ≡ value_for (t ∷ []) (variable z ∷ []) y) → ((y : ℕ) → b2 y ≡ value_for (variables T) (facts_given T s x t) y)
        → (u : ℕ) (v : Width) → environment L u ≡ Some (Var v)
        → substituted (variables L) (map f1 (variables L)) (b1 u) ≡ substituted (variables L) (map f2 (variables L)) (b2 u)
    sides f1 b1 f2 b2 g1 c1 g2 c2 u v e = at (eqb u z) refl (sym (pushed u) ∙ e)
      where
        one_side : (f : ℕ → Exp) (y : ℕ) → is_in (variables L) y ≡ true → substituted (variables L) (map f (variables L)) (variable y) ≡ f y
        one_side f y n = value_for_map (variables L) f y n

        in_longer : (y : ℕ) → environment T y ≡ Some (Var w) → is_in (variables L) y ≡ true
        in_longer y n = variable_in L y w (pushed y ∙ (ap (λ b. cond b (Some (Var w)) (environment T y)) (away y n) ∙ n))

        not_first : (y : ℕ) → environment T y ≡ Some (Var w) → (z == y) ≡ false
        not_first y n = turned_eqb y z (away y n)

        near : (b : Bool) → (u == x) ≡ b → environment T u ≡ Some (Var v)
            → substituted (variables L) (map f1 (variables L)) (b1 u) ≡ substituted (variables L) (map f2 (variables L)) (b2 u)
        near true f k =
            let same : u ≡ x = eqb-true u x f in
            ap (substituted (variables L) (map f1 (variables L))) (c1 u ∙ unlisted_stands (names_without x (variables T)) (values_without x (variables T) (facts T s)) u
            (subst (λ y. is_in (names_without x (variables T)) y ≡ false) (sym same) (not_within (variables T) x)))
            ∙ (one_side f1 u (subst (λ y. is_in (variables L) y ≡ true) (sym same) (in_longer x (known_kind x ex)))
            ∙ (g1 u ∙ (ap (λ b. if b then variable z else variable u) f
            ∙ sym (ap (substituted (variables L) (map f2 (variables L))) (c2 u ∙ (given_at T s x t u v k ∙ ap (λ b. if b then variable t else constant v (s u)) f))
            ∙ (one_side f2 t (in_longer t (known_kind t et)) ∙ (g2 t ∙ ap (λ b. if b then variable z else variable t) (at_itself t)))))))
        near false f k =
            ap (substituted (variables L) (map f1 (variables L))) (c1 u ∙ (without_for (variables T) (facts T s) x u (turned_eqb u x f) ∙ fact_at T s u v k))
            ∙ (constant_stays (variables L) (map f1 (variables L)) v (s u)
            ∙ sym (ap (substituted (variables L) (map f2 (variables L))) (c2 u ∙ (given_at T s x t u v k ∙ ap (λ b. if b then variable t else constant v (s u)) f))
            ∙ constant_stays (variables L) (map f2 (variables L)) v (s u)))

        at : (b : Bool) → eqb u z ≡ b → cond b (Some (Var w)) (environment T u) ≡ Some (Var v)
            → substituted (variables L) (map f1 (variables L)) (b1 u) ≡ substituted (variables L) (map f2 (variables L)) (b2 u)
        at true f k =
            let same : u ≡ z = eqb-true u z f in
            let nowhere : is_in (variables T) u ≡ false = subst (λ y. is_in (variables T) y ≡ false) (sym same) (not_variable T z new) in
            let there : is_in (variables L) u ≡ true = variable_in L u v e in
            ap (substituted (variables L) (map f1 (variables L)))
            (c1 u ∙ (without_for (variables T) (facts T s) x u (turned_eqb u x (subst (λ y. (y == x) ≡ false) (sym same) (not_first x (known_kind x ex)))) ∙ unlisted_stands (variables T) (facts T s) u nowhere))
            ∙ (one_side f1 u there ∙ (g1 u ∙ (ap (λ b. if b then variable z else variable u) (subst (λ y. (y == x) ≡ false) (sym same) (not_first x (known_kind x ex)))
            ∙ sym (ap (substituted (variables L) (map f2 (variables L))) (c2 u ∙ unlisted_stands (variables T) (facts_given T s x t) u nowhere)
            ∙ (one_side f2 u there ∙ (g2 u ∙ ap (λ b. if b then variable z else variable u) (subst (λ y. (y == t) ≡ false) (sym same) (not_first t (known_kind t et)))))))))
        at false f k = near (u == x) refl k

    passed_over : Keeps (environment L) (seq (two (assign (x ∷ []) (variable z ∷ [])) behind_other)) → Keeps (environment L) p
        → Leads L (seq (two (assign (x ∷ []) (variable z ∷ [])) behind_other)) (seq (two (assign (t ∷ []) (variable z ∷ [])) behind_given))
    passed_over k kp =
        let N = names_without x (variables T) in
        let V = values_without x (variables T) (facts T s) in
        let plain = as_assign N V others_there in
        let k0 = subst (λ a. Keeps (environment L) (seq (two (assign (x ∷ []) (variable z ∷ [])) (seq (two a p))))) plain k in
        let inner = first_keeps (environment L) (seq (two (assign N V) p)) no_tree (rest_keeps (environment L) (assign (x ∷ []) (variable z ∷ [])) (one (seq (two (assign N V) p))) k0) in
        let ka = first_keeps (environment L) (assign N V) (one p) inner in
        let k1 = with_first (environment L) (assign (x ∷ []) (variable z ∷ [])) (one (assign N V)) (passes x (known_kind x ex)) (with_first (environment L) (assign N V) no_tree ka (none_keeps (environment L))) in
        let k2 = with_first (environment L) (assign (t ∷ []) (variable z ∷ [])) (one (told_given T s x t)) (passes t (known_kind t et))
        (with_first (environment L) (told_given T s x t) no_tree given_longer (none_keeps (environment L))) in
        let j1 = both_join L longer (x ∷ []) (variable z ∷ []) N V k1 in
        let j2 = both_join L longer (t ∷ []) (variable z ∷ []) (variables T) (facts_given T s x t) k2 in
        let e1 = map (substituted (variables L) (map j1.front (variables L))) (map j1.back (variables L)) in
        let e2 = map (substituted (variables L) (map j2.front (variables L))) (map j2.back (variables L)) in
        let same : e1 ≡ e2 = sides_agree (environment L) j1.back j2.back (substituted (variables L) (map j1.front (variables L))) (substituted (variables L) (map j2.front (variables L))) L (all_listed L longer)
        (sides j1.front j1.back j2.front j2.back j1.front_is j1.back_is j2.front_is j2.back_is) in
        let into = first_in_one L (assign (x ∷ []) (variable z ∷ [])) (assign N V) (assign (variables L) e1) p longer k0 j1.leads in
        let middle = leads_keep L longer k0 into in
        let out = first_in_two L (assign (t ∷ []) (variable z ∷ [])) (told_given T s x t) (assign (variables L) e1) p longer middle
        (subst (λ es. Leads L (assign (variables L) es) (seq (two (assign (t ∷ []) (variable z ∷ [])) (told_given T s x t)))) (sym same) j2.back_to) in
        subst (λ a. Leads L (seq (two (assign (x ∷ []) (variable z ∷ [])) (seq (two a p)))) (seq (two (assign (t ∷ []) (variable z ∷ [])) behind_given))) (sym plain) (leads_on L into out)

  pub input_turns : (fs hs : Branches) (c : ℕ) → Keeps (environment T) p → Keeps (environment T) (alt (all_branches fs (and_branch (truth true) (input c x) behind_other hs)))
      → Keeps (environment T) (alt (all_branches fs (and_branch (truth true) (input c t) behind_given hs)))
      → Leads T (alt (all_branches fs (and_branch (truth true) (input c x) behind_other hs))) (alt (all_branches fs (and_branch (truth true) (input c t) behind_given hs)))
  input_turns fs hs c kp k knew =
      let old = alt (all_branches fs (and_branch (truth true) (input c x) behind_other hs)) in
      let new = alt (all_branches fs (and_branch (truth true) (input c t) behind_given hs)) in
      let f = fresh_name T old in
      let z = f.name in
      let come = law_leads_back T 46 (unused_comes T z w old k f.new wide f.nowhere) in
      let k1 = leads_keep T i.scope k come in
      let pass = law_leads T 52 (passed_on T z w fs hs (truth true) c x behind_other k1 (may_pass T z w fs hs (truth true) c x behind_other f.new ex k)) in
      let k2 = leads_keep T i.scope k1 pass in
      let mid = all_branches fs (and_branch (truth true) (input c z) (seq (two (assign (x ∷ []) (variable z ∷ [])) behind_other)) hs) in
      let inside = declared_keeps T z w (alt mid) k2 in
      let here = (each_behind (IsKept (environment (L z f.new))) fs (and_branch (truth true) (input c z) (seq (two (assign (x ∷ []) (variable z ∷ [])) behind_other)) hs)
      (kept_each (environment (L z f.new)) mid inside)).0.part in
      let kin = first_keeps (environment (L z f.new)) p no_tree (rest_keeps (environment (L z f.new)) (assigned_without x (variables T) (facts T s)) (one p)
      (first_keeps (environment (L z f.new)) behind_other no_tree (rest_keeps (environment (L z f.new)) (assign (x ∷ []) (variable z ∷ [])) (one behind_other) here))) in
      let over = declared_leads T z w (branch_leads (L z f.new) fs (truth true) (input c z) hs (passed_over z f.new here kin)) in
      let k3 = leads_keep T i.scope k2 over in
      let once = law_leads_back T 52 (input_at_once T z w fs hs (truth true) c t behind_given k3 (may_pass T z w fs hs (truth true) c t behind_given f.new et knew)) in
      let k4 = leads_keep T i.scope k3 once in
      let goes = law_leads T 46 (unused_goes T z w new k4 (free_in_scope new (environment T) knew.types z f.new)) in
      leads_on T come (leads_on T pass (leads_on T over (leads_on T once goes)))
