-- Final states are told apart by the values that they leave.
use Rattle.std.proofs.Common.{◌≡◌, ℕ, ◌^◌, ◌==◌, true, false, nat_lt, ◌&&◌, List, [], ◌∷◌, Option, None, Some, if◌then◌else◌, refl, sym, ap, ◌∙◌, inl, inr, ◌⊎◌}
use Rattle.std.specs.Prelude.{is_none}
use Rattle.std.proofs.lemmas.Bool.{and_parts, cases_Bool, eqb-true, eq-eqb, false≢true, ltb-true, true≢false}
use Rattle.occ_target.specs.occ_base.declared.names.Name.{Name}
use Rattle.occ_target.specs.occ_base.Width.{bits_of}
use Rattle.occ_target.specs.occ_syntax.declared.scope.Kind.{Kind}
use Rattle.occ_target.specs.occ_syntax.declared.scope.Kind.TheVariants.{Var, Chan}
use Rattle.occ_target.specs.occ_syntax.Scopes.{Environment, Values, environment}
use Rattle.occ_target.specs.occ_syntax.Types.{can_declare, is_width, scope_kept, width_of_kind}
use Rattle.occ_target.specs.occ_behaviour.States.{is_state}
use Rattle.occ_target.proofs.from_meaning.Facts.{value_at, value_off}
use Rattle.occ_target.specs.occ_nform_table.Lists.{In}
use Rattle.occ_target.specs.States.{variables}
use Rattle.occ_target_laws.proofs.Following.{constant_value}
use Rattle.occ_target_laws.proofs.Nodes.{left_in}

some_not_none : {A : Type 0} {a : A} → Some a ≡ None → ⊥
some_not_none h = cc

-- a variable of parameters stands for something
pub variable_known : (params : List (Name × Kind)) (x : ℕ) → In x (variables params) → environment params x ≡ None → ⊥
variable_known [] x i e = absurd i
variable_known ((name, kind) ∷ params) x i e = go (cases_Bool (x == name.0)) kind i e (variable_known params x)
  where
    go : ((x == name.0) ≡ true) ⊎ ((x == name.0) ≡ false) → (k : Kind) → In x (variables ((name, k) ∷ params)) → environment ((name, k) ∷ params) x ≡ None
        → (In x (variables params) → environment params x ≡ None → ⊥) → ⊥
    go (inl f) k j g ih = some_not_none (sym (ap (λ b. if b then Some k else environment params x) f) ∙ g)
    go (inr f) (Chan w d) j g ih = ih j (sym (ap (λ b. if b then Some (Chan w d) else environment params x) f) ∙ g)
    go (inr f) (Var w) (inl j) g ih = absurd (true≢false (sym (eq-eqb x name.0 j) ∙ f))
    go (inr f) (Var w) (inr j) g ih = ih j (sym (ap (λ b. if b then Some (Var w) else environment params x) f) ∙ g)

none_is : (o : Option Kind) → is_none o ≡ true → o ≡ None
none_is None h = refl
none_is (Some k) h = absurd (false≢true h)

-- no later parameter has the name of the first
pub first_apart : (p : Name × Kind) (params : List (Name × Kind)) → scope_kept (p ∷ params) ≡ true → (environment params p.0.0 ≡ None) × (scope_kept params ≡ true)
first_apart p params kept =
    let both = and_parts (can_declare (environment params) p.0.0 (width_of_kind p.1)) (scope_kept params) kept in
    (none_is (environment params p.0.0) (and_parts (is_none (environment params p.0.0)) (is_width (width_of_kind p.1)) both.0).0, both.1)

pub off_first : (params : List (Name × Kind)) (x y : ℕ) → environment params y ≡ None → In x (variables params) → (x == y) ≡ false
off_first params x y e i = go (cases_Bool (x == y))
  where
    go : ((x == y) ≡ true) ⊎ ((x == y) ≡ false) → (x == y) ≡ false
    go (inl f) = absurd (variable_known params x i (ap (environment params) (eqb-true x y f) ∙ e))
    go (inr f) = f

pub one_end : (params : List (Name × Kind)) → scope_kept params ≡ true → (state other : List (Name × ℕ)) → is_state params state ≡ true → is_state params other ≡ true → (Γ : Environment) (s : Values)
    → ((x : ℕ) → In x (variables params) → left_in params state Γ s x ≡ left_in params other Γ s x) → state ≡ other
one_end [] kept [] [] is im Γ s h = refl
one_end [] kept [] (v ∷ other) is im Γ s h = absurd (false≢true im)
one_end [] kept (v ∷ state) other is im Γ s h = absurd (false≢true is)
one_end ((name, Chan w d) ∷ params) kept state other is im Γ s h = one_end params (first_apart (name, Chan w d) params kept).1 state other is im Γ s h
one_end ((name, Var w) ∷ params) kept [] other is im Γ s h = absurd (false≢true is)
one_end ((name, Var w) ∷ params) kept (v ∷ state) [] is im Γ s h = absurd (false≢true im)
one_end ((name, Var w) ∷ params) kept (v ∷ state) (u ∷ other) is im Γ s h =
    let fresh = first_apart (name, Var w) params kept in
    let one = and_parts (v.0.0 == name.0 && nat_lt v.1 (2 ^ bits_of w)) (is_state params state) is in
    let two = and_parts (u.0.0 == name.0 && nat_lt u.1 (2 ^ bits_of w)) (is_state params other) im in
    let first = and_parts (v.0.0 == name.0) (nat_lt v.1 (2 ^ bits_of w)) one.0 in
    let second = and_parts (u.0.0 == name.0) (nat_lt u.1 (2 ^ bits_of w)) two.0 in
    let names : v.0.0 ≡ u.0.0 = eqb-true v.0.0 name.0 first.0 ∙ sym (eqb-true u.0.0 name.0 second.0) in
    let values : v.1 ≡ u.1 = sym (value_at (left_in params state Γ s) name.0 _ ∙ constant_value Γ s w v.1 (ltb-true v.1 (2 ^ bits_of w) first.1)) ∙ h name.0 (inl refl)
    ∙ value_at (left_in params other Γ s) name.0 _ ∙ constant_value Γ s w u.1 (ltb-true u.1 (2 ^ bits_of w) second.1) in
    let later = one_end params fresh.1 state other one.1 two.1 Γ s (λ x i. sym (value_off (left_in params state Γ s) name.0 _ x (off_first params x name.0 fresh.0 i)) ∙ h x (inr i)
    ∙ value_off (left_in params other Γ s) name.0 _ x (off_first params x name.0 fresh.0 i)) in
    λ i. (record { 0 = names i }, values i) ∷ later i
