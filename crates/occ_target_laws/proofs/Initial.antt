-- The condition of an initial state holds in that state alone.
use Rattle.std.proofs.Common.{◌≡◌, ℕ, ◌<◌, ◌^◌, ◌==◌, Bool, true, false, nat_lt, ◌&&◌, bit_and, List, [], ◌∷◌, None, Some, if◌then◌else◌, refl, sym, ap, ◌∙◌, subst, inl, inr, ◌⊎◌}
use Rattle.std.proofs.lemmas.Bool.{and_from, and_parts, cases_Bool, eqb-true, eq-eqb, false≢true, ltb-true}
use Rattle.occ_target.specs.occ_base.declared.names.Name.{Name}
use Rattle.occ_target.specs.occ_base.declared.width.Width.{Width}
use Rattle.occ_target.specs.occ_base.Width.{bits_of}
use Rattle.occ_target.specs.occ_syntax.declared.expr.Op.TheVariants.{And}
use Rattle.occ_target.specs.occ_syntax.declared.scope.Kind.{Kind}
use Rattle.occ_target.specs.occ_syntax.declared.scope.Kind.TheVariants.{Var, Chan}
use Rattle.occ_target.specs.occ_syntax.Counts.{bits_of_scope}
use Rattle.occ_target.specs.occ_syntax.Eval.{eval, is_true, one_if}
use Rattle.occ_target.specs.occ_syntax.Scopes.{Environment, IsState, Values, environment, values, variable_kind}
use Rattle.occ_target.specs.occ_syntax.Tree.{Exp, operation}
use Rattle.occ_target.specs.occ_syntax.Types.{scope_kept}
use Rattle.occ_target.specs.occ_behaviour.States.{is_state}
use Rattle.occ_target.proofs.from_meaning.Facts.{value_at, value_off}
use Rattle.occ_target.specs.occ_nform_table.Lines.{state_place}
use Rattle.occ_target.specs.occ_nform_table.Texts.{state_at_place}
use Rattle.occ_target.proofs.from_nform_table.PlaceNames.{place_is_state, place_there}
use Rattle.occ_target.specs.occ_nform_table.Lists.{In}
use Rattle.occ_target.specs.States.{condition, is_at, joined, tests, variables}
use Rattle.occ_target_laws.proofs.Following.{constant_value, one_if_is}
use Rattle.occ_target_laws.proofs.Finals.{first_apart, off_first}

-- each variable of the interface has its value of the state
abbrev pub Holds : List (Name × Kind) → List (Name × ℕ) → Values → Type 0
Holds [] state s = Unit {0}
Holds ((name, Chan w d) ∷ params) state s = Holds params state s
Holds ((name, Var w) ∷ params) [] s = ⊥
Holds ((name, Var w) ∷ params) (v ∷ state) s = (s name.0 ≡ v.1) × Holds params state s

pub holds_along : (params : List (Name × Kind)) (state : List (Name × ℕ)) (s r : Values) → ((x : ℕ) → In x (variables params) → s x ≡ r x) → Holds params state s → Holds params state r
holds_along [] state s r f h = tt
holds_along ((name, Chan w d) ∷ params) state s r f h = holds_along params state s r f h
holds_along ((name, Var w) ∷ params) [] s r f h = absurd h
holds_along ((name, Var w) ∷ params) (v ∷ state) s r f h = (sym (f name.0 (inl refl)) ∙ h.0, holds_along params state s r (λ x i. f x (inr i)) h.1)

-- the values that a state gives
pub holds_itself : (params : List (Name × Kind)) → scope_kept params ≡ true → (state : List (Name × ℕ)) → is_state params state ≡ true → Holds params state (values state)
holds_itself [] kept state is = tt
holds_itself ((name, Chan w d) ∷ params) kept state is = holds_itself params (first_apart (name, Chan w d) params kept).1 state is
holds_itself ((name, Var w) ∷ params) kept [] is = absurd (false≢true is)
holds_itself ((name, Var w) ∷ params) kept (v ∷ state) is =
    let fresh = first_apart (name, Var w) params kept in
    let both = and_parts (v.0.0 == name.0 && nat_lt v.1 (2 ^ bits_of w)) (is_state params state) is in
    let named : v.0.0 ≡ name.0 = eqb-true v.0.0 name.0 (and_parts (v.0.0 == name.0) (nat_lt v.1 (2 ^ bits_of w)) both.0).0 in (
      ap (λ x. values (v ∷ state) x) (sym named) ∙ value_at (values state) v.0.0 v.1,
      holds_along params state (values state) (values (v ∷ state))
          (λ x i. sym (value_off (values state) v.0.0 v.1 x (ap (λ y. x == y) named ∙ off_first params x name.0 fresh.0 i))) (holds_itself params fresh.1 state both.1),
    )

-- one state holds of values at most
pub holds_one : (params : List (Name × Kind)) (state other : List (Name × ℕ)) → is_state params state ≡ true → is_state params other ≡ true → (s : Values) → Holds params state s → Holds params other s
    → state ≡ other
holds_one [] [] [] is im s h k = refl
holds_one [] [] (v ∷ other) is im s h k = absurd (false≢true im)
holds_one [] (v ∷ state) other is im s h k = absurd (false≢true is)
holds_one ((name, Chan w d) ∷ params) state other is im s h k = holds_one params state other is im s h k
holds_one ((name, Var w) ∷ params) [] other is im s h k = absurd h
holds_one ((name, Var w) ∷ params) (v ∷ state) [] is im s h k = absurd k
holds_one ((name, Var w) ∷ params) (v ∷ state) (u ∷ other) is im s h k =
    let one = and_parts (v.0.0 == name.0 && nat_lt v.1 (2 ^ bits_of w)) (is_state params state) is in
    let two = and_parts (u.0.0 == name.0 && nat_lt u.1 (2 ^ bits_of w)) (is_state params other) im in
    let first = and_parts (v.0.0 == name.0) (nat_lt v.1 (2 ^ bits_of w)) one.0 in
    let second = and_parts (u.0.0 == name.0) (nat_lt u.1 (2 ^ bits_of w)) two.0 in
    let names : v.0.0 ≡ u.0.0 = eqb-true v.0.0 name.0 first.0 ∙ sym (eqb-true u.0.0 name.0 second.0) in
    let numbers : v.1 ≡ u.1 = sym h.0 ∙ k.0 in
    let rest = holds_one params state other one.1 two.1 s h.1 k.1 in
    λ i. (record { 0 = names i }, numbers i) ∷ rest i

some_width : {v w : Width} → Some v ≡ Some w → v ≡ w
some_width h = cc

none_width : {w : Width} → None ≡ Some w → ⊥
none_width h = cc

-- values of which a state holds are a state of the environment
pub holds_state : (params : List (Name × Kind)) (state : List (Name × ℕ)) → is_state params state ≡ true → (s : Values) → Holds params state s → IsState (environment params) s
holds_state [] state is s h x w e = absurd (none_width e)
holds_state (p ∷ params) state is s h x w e = go (cases_Bool (x == p.0.0)) (λ states are held f. holds_state params states are s held x w f)
  where
    kind_first : (x == p.0.0) ≡ true → variable_kind (environment (p ∷ params) x) ≡ variable_kind (Some p.1)
    kind_first t = ap (λ b. variable_kind (if b then Some p.1 else environment params x)) t

    kind_later : (x == p.0.0) ≡ false → variable_kind (environment (p ∷ params) x) ≡ variable_kind (environment params x)
    kind_later t = ap (λ b. variable_kind (if b then Some p.1 else environment params x)) t

    later : (k : Kind) (state : List (Name × ℕ)) → is_state ((p.0, k) ∷ params) state ≡ true → Holds ((p.0, k) ∷ params) state s → variable_kind (environment params x) ≡ Some w
        → ((states : List (Name × ℕ)) → is_state params states ≡ true → Holds params states s → variable_kind (environment params x) ≡ Some w → s x < 2 ^ bits_of w) → s x < 2 ^ bits_of w
    later (Chan v d) states are held f ih = ih states are held f
    later (Var v) [] are held f ih = absurd held
    later (Var v) (u ∷ states) are held f ih = ih states (and_parts (u.0.0 == p.0.0 && nat_lt u.1 (2 ^ bits_of v)) (is_state params states) are).1 held.1 f

    first : (k : Kind) → (x == p.0.0) ≡ true → (state : List (Name × ℕ)) → is_state ((p.0, k) ∷ params) state ≡ true → Holds ((p.0, k) ∷ params) state s → variable_kind (Some k) ≡ Some w → s x < 2 ^ bits_of w
    first (Chan v d) t states are held f = absurd (none_width f)
    first (Var v) t [] are held f = absurd held
    first (Var v) t (u ∷ states) are held f =
        let one = and_parts (u.0.0 == p.0.0 && nat_lt u.1 (2 ^ bits_of v)) (is_state params states) are in
        let below = ltb-true u.1 (2 ^ bits_of v) (and_parts (u.0.0 == p.0.0) (nat_lt u.1 (2 ^ bits_of v)) one.0).1 in
        let value : s x ≡ u.1 = ap s (eqb-true x p.0.0 t) ∙ held.0 in
        subst (λ z. s x < 2 ^ bits_of z) (some_width f) (subst (λ n. n < 2 ^ bits_of v) (sym value) below)

    go : ((x == p.0.0) ≡ true) ⊎ ((x == p.0.0) ≡ false)
        → ((states : List (Name × ℕ)) → is_state params states ≡ true → Holds params states s → variable_kind (environment params x) ≡ Some w → s x < 2 ^ bits_of w) → s x < 2 ^ bits_of w
    go (inl t) ih = first p.1 t state is h (sym (kind_first t) ∙ e)
    go (inr t) ih = later p.1 state is h (sym (kind_later t) ∙ e) ih

-- ---- conditions

both_bits : (b c : Bool) → bit_and (one_if b) (one_if c) ≡ one_if (b && c)
both_bits true true = refl
both_bits true false = refl
both_bits false true = refl
both_bits false false = refl

abbrev Both : Type 0 → Type 0 → Type 0
Both P Q = (P → Q) × (Q → P)

module _ (Γ : Environment) (s : Values) where
  joined_tells : (params : List (Name × Kind)) (state : List (Name × ℕ)) → is_state params state ≡ true → (e : Exp) (b : Bool) → eval Γ e s ≡ one_if b
      → Both (is_true Γ (joined e (tests params state)) s ≡ true) ((b ≡ true) × Holds params state s)
  joined_tells [] state is e b h =
      let k : is_true Γ e s ≡ b = ap (λ n. n == 1) h ∙ one_if_is b in
      (λ t. (sym k ∙ t, tt), λ t. k ∙ t.0)
  joined_tells ((name, Chan w d) ∷ params) state is e b h = joined_tells params state is e b h
  joined_tells ((name, Var w) ∷ params) [] is e b h = absurd (false≢true is)
  joined_tells ((name, Var w) ∷ params) (v ∷ state) is e b h =
      let both = and_parts (v.0.0 == name.0 && nat_lt v.1 (2 ^ bits_of w)) (is_state params state) is in
      let below = ltb-true v.1 (2 ^ bits_of w) (and_parts (v.0.0 == name.0) (nat_lt v.1 (2 ^ bits_of w)) both.0).1 in
      let test : eval Γ (is_at name.0 w v.1) s ≡ one_if (s name.0 == v.1) = ap (λ n. one_if (s name.0 == n)) (constant_value Γ s w v.1 below) in
      let value : eval Γ (operation And e (is_at name.0 w v.1)) s ≡ one_if (b && (s name.0 == v.1)) = (λ i. bit_and (h i) (test i)) ∙ both_bits b (s name.0 == v.1) in
      let rest = joined_tells params state both.1 (operation And e (is_at name.0 w v.1)) (b && (s name.0 == v.1)) value in (
        λ t. (let k = rest.0 t in let j = and_parts b (s name.0 == v.1) k.0 in (j.0, (eqb-true (s name.0) v.1 j.1, k.1))),
        λ t. rest.1 (and_from b (s name.0 == v.1) t.0 (eq-eqb (s name.0) v.1 t.1.0), t.1.1),
      )

  condition_tells : (params : List (Name × Kind)) (state : List (Name × ℕ)) → is_state params state ≡ true → Both (is_true Γ (condition params state) s ≡ true) (Holds params state s)
  condition_tells [] state is = (λ t. tt, λ t. refl)
  condition_tells ((name, Chan w d) ∷ params) state is = condition_tells params state is
  condition_tells ((name, Var w) ∷ params) [] is = absurd (false≢true is)
  condition_tells ((name, Var w) ∷ params) (v ∷ state) is =
      let both = and_parts (v.0.0 == name.0 && nat_lt v.1 (2 ^ bits_of w)) (is_state params state) is in
      let below = ltb-true v.1 (2 ^ bits_of w) (and_parts (v.0.0 == name.0) (nat_lt v.1 (2 ^ bits_of w)) both.0).1 in
      let test : eval Γ (is_at name.0 w v.1) s ≡ one_if (s name.0 == v.1) = ap (λ n. one_if (s name.0 == n)) (constant_value Γ s w v.1 below) in
      let rest = joined_tells params state both.1 (is_at name.0 w v.1) (s name.0 == v.1) test in
      (λ t. (let k = rest.0 t in (eqb-true (s name.0) v.1 k.0, k.1)), λ t. rest.1 (eq-eqb (s name.0) v.1 t.0, t.1))

  -- of the conditions of initial states that of the state at hand alone is true
  pub true_there : (params : List (Name × Kind)) (k : ℕ) → Holds params (state_at_place params k) s → is_true Γ (condition params (state_at_place params k)) s ≡ true
  true_there params k h = (condition_tells params (state_at_place params k) (place_is_state params k)).1 h

  pub true_only : (params : List (Name × Kind)) (k j : ℕ) → k < 2 ^ bits_of_scope params → j < 2 ^ bits_of_scope params → Holds params (state_at_place params k) s
      → is_true Γ (condition params (state_at_place params j)) s ≡ true → j ≡ k
  true_only params k j l g h t =
      let other = (condition_tells params (state_at_place params j) (place_is_state params j)).0 t in
      let same = holds_one params (state_at_place params j) (state_at_place params k) (place_is_state params j) (place_is_state params k) s other h in
      sym (place_there params j g) ∙ ap (state_place params) same ∙ place_there params k l
