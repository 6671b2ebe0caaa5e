-- Layouts: where the bits of a variable lie, and the states that assignments stand for.
use Rattle.std.proofs.Common.{◌≡◌, ℕ, ◌+◌, ◌/◌, ◌%◌, ◌^◌, ◌≤◌, ◌==◌, true, false, cond, List, [], ◌∷◌, Option, Some, None, refl, sym, ap, ◌∙◌, subst, arith, ⊎_elim, zero-add}
use Rattle.std.proofs.lemmas.Bool.{and_from, and_parts, cases_Bool, eqb-true}
use Rattle.std.specs.Option.{is_none}
use Rattle.occ_dd.specs.occ_base.declared.names.Name.{Name}
use Rattle.occ_dd.specs.occ_base.declared.width.Width.{Width}
use Rattle.occ_dd.specs.occ_base.Width.{bits_of}
use Rattle.occ_syntax.specs.declared.scope.Kind.{Kind}
use Rattle.occ_syntax.specs.declared.scope.Kind.TheVariants.{Var, Chan}
use Rattle.occ_syntax.specs.Counts.{bits_of_scope}
use Rattle.occ_syntax.specs.Scopes.{environment, variable_kind, variable_width}
use Rattle.occ_syntax.specs.Types.{scope_kept}
use Rattle.occ_bits.specs.Layout.{IsLayout, entry_of, environment_in, laid_out, scope_in, state_of}

-- ---- the variables of a scope

nothing_there : {A : Type 0} (o : Option A) → is_none o ≡ true → o ≡ None
nothing_there None e = refl
nothing_there (Some a) e = absurd (cc)

pub fresh_first : (entry : Name × Kind) (scope : List (Name × Kind)) → scope_kept (entry ∷ scope) ≡ true → environment scope entry.0.0 ≡ None
fresh_first entry scope h = nothing_there _ (and_parts _ _ (and_parts _ _ h).0).0

-- the variables that a scope lays out are its own
pub laid_width : (a : ℕ) (scope : List (Name × Kind)) (y : ℕ) → scope_kept scope ≡ true → variable_width (environment_in (laid_out a scope)) y ≡ variable_width (environment scope) y
laid_width a [] y h = refl
laid_width a ((n, Var w) ∷ scope) y h = ⊎_elim
    (λ (t : (y == n.0) ≡ true). ap (λ b. variable_kind (cond b (Some (Var w)) (environment_in (laid_out (a + bits_of w) scope) y))) t ∙ sym (ap (λ b. variable_kind (cond b (Some (Var w)) (environment scope y))) t))
    (λ (t : (y == n.0) ≡ false). ap (λ b. variable_kind (cond b (Some (Var w)) (environment_in (laid_out (a + bits_of w) scope) y))) t ∙ laid_width (a + bits_of w) scope y (and_parts _ _ h).1 ∙ sym (ap (λ b. variable_kind (cond b (Some (Var w)) (environment scope y))) t))
    (cases_Bool (y == n.0))
laid_width a ((n, Chan w d) ∷ scope) y h = ⊎_elim
    (λ (t : (y == n.0) ≡ true). laid_width a scope y (and_parts _ _ h).1 ∙ ap variable_kind (ap (environment scope) (eqb-true _ _ t) ∙ fresh_first (n, Chan w d) scope h) ∙ sym (ap (λ b. variable_kind (cond b (Some (Chan w d)) (environment scope y))) t))
    (λ (t : (y == n.0) ≡ false). laid_width a scope y (and_parts _ _ h).1 ∙ sym (ap (λ b. variable_kind (cond b (Some (Chan w d)) (environment scope y))) t))
    (cases_Bool (y == n.0))

-- a name that isn't in a scope isn't in what it lays out
laid_none : (a : ℕ) (scope : List (Name × Kind)) (y : ℕ) → is_none (environment scope y) ≡ true → is_none (environment_in (laid_out a scope) y) ≡ true
laid_none a [] y h = refl
laid_none a ((n, Var w) ∷ scope) y h = ⊎_elim
    (λ (t : (y == n.0) ≡ true). absurd (none_there (Var w) (sym (ap (λ b. is_none (cond b (Some (Var w)) (environment scope y))) t) ∙ h)))
    (λ (t : (y == n.0) ≡ false). ap (λ b. is_none (cond b (Some (Var w)) (environment_in (laid_out (a + bits_of w) scope) y))) t ∙ laid_none (a + bits_of w) scope y (sym (ap (λ b. is_none (cond b (Some (Var w)) (environment scope y))) t) ∙ h))
    (cases_Bool (y == n.0))
  where
    none_there : (k : Kind) → is_none (Some k) ≡ true → ⊥
    none_there k e = cc
laid_none a ((n, Chan w d) ∷ scope) y h = ⊎_elim
    (λ (t : (y == n.0) ≡ true). absurd (none_there (Chan w d) (sym (ap (λ b. is_none (cond b (Some (Chan w d)) (environment scope y))) t) ∙ h)))
    (λ (t : (y == n.0) ≡ false). laid_none a scope y (sym (ap (λ b. is_none (cond b (Some (Chan w d)) (environment scope y))) t) ∙ h))
    (cases_Bool (y == n.0))
  where
    none_there : (k : Kind) → is_none (Some k) ≡ true → ⊥
    none_there k e = cc

laid_kept : (a : ℕ) (scope : List (Name × Kind)) → scope_kept scope ≡ true → scope_kept (scope_in (laid_out a scope)) ≡ true
laid_kept a [] h = refl
laid_kept a ((n, Var w) ∷ scope) h =
    let parts = and_parts _ _ h in
    let first = and_parts _ _ parts.0 in
    and_from _ _ (and_from _ _ (laid_none (a + bits_of w) scope n.0 first.0) first.1) (laid_kept (a + bits_of w) scope parts.1)
laid_kept a ((n, Chan w d) ∷ scope) h = laid_kept a scope (and_parts _ _ h).1

pub laid_bits : (a : ℕ) (scope : List (Name × Kind)) → bits_of_scope (scope_in (laid_out a scope)) ≡ bits_of_scope scope
laid_bits a [] = refl
laid_bits a ((n, Var w) ∷ scope) = ap (λ m. bits_of w + m) (laid_bits (a + bits_of w) scope)
laid_bits a ((n, Chan w d) ∷ scope) = laid_bits a scope ∙ sym (zero-add (bits_of_scope scope))

laid_again : (a : ℕ) (scope : List (Name × Kind)) → laid_out a scope ≡ laid_out a (scope_in (laid_out a scope))
laid_again a [] = refl
laid_again a ((n, Var w) ∷ scope) = ap (λ (r : List (Name × Width × ℕ)). (n, w, a) ∷ r) (laid_again (a + bits_of w) scope)
laid_again a ((n, Chan w d) ∷ scope) = laid_again a scope

pub layout_of : (scope : List (Name × Kind)) → scope_kept scope ≡ true → bits_of_scope scope ≤ 64 → IsLayout (laid_out 0 scope)
layout_of scope h few = record {
  scope = laid_kept 0 scope h;
  few = subst (λ n. n ≤ 64) (sym (laid_bits 0 scope)) few;
  laid = laid_again 0 scope;
}

-- ---- finding a variable

pub same_pair : (p q : Width × ℕ) → Some p ≡ Some q → p ≡ q
same_pair p q e = cc

pub found_width : (entries : List (Name × Width × ℕ)) (y : ℕ) (w : Width) (f : ℕ) → entry_of entries y ≡ Some (w, f) → variable_width (environment_in entries) y ≡ Some w
found_width [] y w f e = absurd (cc)
found_width ((n, v, g) ∷ entries) y w f e = ⊎_elim
    (λ (t : (y == n.0) ≡ true). ap (λ b. variable_kind (cond b (Some (Var v)) (environment_in entries y))) t ∙ ap (λ (p : Width × ℕ). Some p.0) (same_pair (v, g) (w, f) (sym (ap (λ b. cond b (Some (v, g)) (entry_of entries y)) t) ∙ e)))
    (λ (t : (y == n.0) ≡ false). ap (λ b. variable_kind (cond b (Some (Var v)) (environment_in entries y))) t ∙ found_width entries y w f (sym (ap (λ b. cond b (Some (v, g)) (entry_of entries y)) t) ∙ e))
    (cases_Bool (y == n.0))

pub found_state : (entries : List (Name × Width × ℕ)) (y : ℕ) (w : Width) (f x : ℕ) → entry_of entries y ≡ Some (w, f) → state_of entries x y ≡ x / 2 ^ f % 2 ^ bits_of w
found_state [] y w f x e = absurd (cc)
found_state ((n, v, g) ∷ entries) y w f x e = ⊎_elim
    (λ (t : (y == n.0) ≡ true). ap (λ b. cond b (x / 2 ^ g % 2 ^ bits_of v) (state_of entries x y)) t ∙ ap (λ (p : Width × ℕ). x / 2 ^ p.1 % 2 ^ bits_of p.0) (same_pair (v, g) (w, f) (sym (ap (λ b. cond b (Some (v, g)) (entry_of entries y)) t) ∙ e)))
    (λ (t : (y == n.0) ≡ false). ap (λ b. cond b (x / 2 ^ g % 2 ^ bits_of v) (state_of entries x y)) t ∙ found_state entries y w f x (sym (ap (λ b. cond b (Some (v, g)) (entry_of entries y)) t) ∙ e))
    (cases_Bool (y == n.0))

pub missing : (entries : List (Name × Width × ℕ)) (y : ℕ) → entry_of entries y ≡ None → variable_width (environment_in entries) y ≡ None
missing [] y e = refl
missing ((n, v, g) ∷ entries) y e = ⊎_elim
    (λ (t : (y == n.0) ≡ true). absurd (clash (v, g) (sym (ap (λ b. cond b (Some (v, g)) (entry_of entries y)) t) ∙ e)))
    (λ (t : (y == n.0) ≡ false). ap (λ b. variable_kind (cond b (Some (Var v)) (environment_in entries y))) t ∙ missing entries y (sym (ap (λ b. cond b (Some (v, g)) (entry_of entries y)) t) ∙ e))
    (cases_Bool (y == n.0))
  where
    clash : (p : Width × ℕ) → Some p ≡ None → ⊥
    clash p q = cc

-- the bits of a variable lie within those of the layout
laid_within : (a : ℕ) (scope : List (Name × Kind)) (y : ℕ) (w : Width) (f : ℕ) → entry_of (laid_out a scope) y ≡ Some (w, f) → f + bits_of w ≤ a + bits_of_scope scope
laid_within a [] y w f e = absurd (cc)
laid_within a ((n, Var v) ∷ scope) y w f e = ⊎_elim
    (λ (t : (y == n.0) ≡ true).
    let sum : a + bits_of v ≡ f + bits_of w = ap (λ (p : Width × ℕ). p.1 + bits_of p.0) (same_pair (v, a) (w, f) (sym (ap (λ b. cond b (Some (v, a)) (entry_of (laid_out (a + bits_of v) scope) y)) t) ∙ e)) in omega arith)
    (λ (t : (y == n.0) ≡ false). omega (arith, laid_within (a + bits_of v) scope y w f (sym (ap (λ b. cond b (Some (v, a)) (entry_of (laid_out (a + bits_of v) scope) y)) t) ∙ e)))
    (cases_Bool (y == n.0))
laid_within a ((n, Chan v d) ∷ scope) y w f e = omega (arith, laid_within a scope y w f e)

pub found_within : (entries : List (Name × Width × ℕ)) → IsLayout entries → (y : ℕ) (w : Width) (f : ℕ) → entry_of entries y ≡ Some (w, f) → f + bits_of w ≤ 64
found_within entries is y w f e =
    let few : bits_of_scope (scope_in entries) ≤ 64 = is.few in
    omega (arith, laid_within 0 (scope_in entries) y w f (ap (λ es. entry_of es y) (sym is.laid) ∙ e))
