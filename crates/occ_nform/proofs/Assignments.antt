-- The assignment at a state's place has that state.
use Rattle.std.proofs.Common.{◌≡◌, ◌<◌, ◌+◌, ◌*◌, ◌/◌, ◌%◌, ◌^◌, ◌==◌, ◌&&◌, ℕ, true, nat_lt, List, [], ◌∷◌, refl, sym, ap, ◌∙◌, arith}
use Rattle.std.proofs.lemmas.Bool.{and_parts, false≢true, ltb-true, eqb-true}
use Rattle.std.proofs.Math.Nat.{mod-eq_of_lt}
use Rattle.occ_syntax.specs.occ_base.declared.names.Name.{Name}
use Rattle.occ_syntax.specs.occ_base.declared.width.Width.{Width}
use Rattle.occ_syntax.specs.occ_base.Width.{bits_of}
use Rattle.occ_syntax.specs.declared.scope.Kind.{Kind}
use Rattle.occ_syntax.specs.declared.scope.Kind.TheVariants.{Var, Chan}
use Rattle.occ_syntax.specs.Counts.{bits_of_scope}
use Rattle.occ_syntax.specs.Scopes.{values, with_value}
use Rattle.occ_nform_rows.specs.occ_behaviour.States.{is_state}
use Rattle.occ_nform_rows.specs.occ_bits.Layout.{laid_out, state_of}
use Rattle.occ_nform_rows.specs.occ_compare.Places.{assignment_at, rest_state, state_at, values_at}
use Rattle.occ_nform_rows.proofs.from_compare.Numbers.{state_is}
use Rattle.occ_nform_rows.specs.occ_nform_table.Lines.{state_place}
use Rattle.occ_nform_rows.proofs.from_nform_table.States.{place_below}

-- ---- two digits
high_of : (v r m : ℕ) → m < r → (v * r + m) / r ≡ v
high_of v r m h = grind arith

low_of : (v r m : ℕ) → m < r → (v * r + m) % r ≡ m
low_of v r m h = grind arith

turned : (v p a : ℕ) → v + p * a ≡ a * p + v
turned v p a = omega arith

no_high : (k r : ℕ) → k < r → k / r ≡ 0
no_high k r h = let e : k ≡ 0 * r + k = omega arith in ap (λ n. n / r) e ∙ high_of 0 r k h

no_digit : (params : List (Name × Kind)) (k : ℕ) → k < 2 ^ bits_of_scope params → k / 2 ^ bits_of_scope params + 2 ^ 0 * assignment_at params (k % 2 ^ bits_of_scope params) ≡ assignment_at params k
no_digit params k h =
    let high : k / 2 ^ bits_of_scope params ≡ 0 = no_high k (2 ^ bits_of_scope params) h in
    let low : k % 2 ^ bits_of_scope params ≡ k = mod-eq_of_lt h in
    let none : 0 + 2 ^ 0 * assignment_at params k ≡ assignment_at params k = omega arith in
    (λ i. high i + 2 ^ 0 * assignment_at params (low i)) ∙ none

rest_there : (params : List (Name × Kind)) (s : List (Name × ℕ)) → is_state params s ≡ true → rest_state params (assignment_at params (state_place params s)) ≡ s
rest_there [] [] h = refl
rest_there [] (v ∷ s) h = absurd (false≢true h)
rest_there ((name, Chan w d) ∷ params) s h = ap (rest_state params) (no_digit params (state_place params s) (place_below params s h)) ∙ rest_there params s h
rest_there ((name, Var w) ∷ params) [] h = absurd (false≢true h)
rest_there ((name, Var w) ∷ params) (v ∷ s) h =
    let both = and_parts (v.0.0 == name.0 && nat_lt v.1 (2 ^ bits_of w)) (is_state params s) h in
    let first = and_parts (v.0.0 == name.0) (nat_lt v.1 (2 ^ bits_of w)) both.0 in
    let p = 2 ^ bits_of w in
    let r = 2 ^ bits_of_scope params in
    let m = state_place params s in
    let small : m < r = place_below params s both.1 in
    let fits : v.1 < p = ltb-true v.1 p first.1 in
    let a = assignment_at params m in
    let high : (v.1 * r + m) / r ≡ v.1 = high_of v.1 r m small in
    let low : (v.1 * r + m) % r ≡ m = low_of v.1 r m small in
    let is : (v.1 * r + m) / r + p * assignment_at params ((v.1 * r + m) % r) ≡ a * p + v.1 = (λ i. high i + p * assignment_at params (low i)) ∙ turned v.1 p a in
    let value : ((v.1 * r + m) / r + p * assignment_at params ((v.1 * r + m) % r)) % p ≡ v.1 = ap (λ n. n % p) is ∙ low_of a p v.1 fits in
    let rest : rest_state params (((v.1 * r + m) / r + p * assignment_at params ((v.1 * r + m) % r)) / p) ≡ s =
    ap (λ n. rest_state params (n / p)) is ∙ ap (rest_state params) (high_of a p v.1 fits) ∙ rest_there params s both.1 in
    let named : name.0 ≡ v.0.0 = sym (eqb-true v.0.0 name.0 first.0) in
    λ i. (record { 0 = named i }, value i) ∷ rest i

pub state_there : (params : List (Name × Kind)) (s : List (Name × ℕ)) → is_state params s ≡ true → state_at params (assignment_at params (state_place params s)) ≡ s
state_there params s h = state_is params (assignment_at params (state_place params s)) ∙ rest_there params s h

values_state : (layout : List (Name × Width × ℕ)) (x : ℕ) → values (values_at layout x) ≡ state_of layout x
values_state [] x = refl
values_state (entry ∷ entries) x = ap (λ s. with_value s entry.0.0 (x / 2 ^ entry.2 % 2 ^ bits_of entry.1)) (values_state entries x)

-- the values of a state are those for which the assignment at its place stands
pub values_there : (params : List (Name × Kind)) (s : List (Name × ℕ)) → is_state params s ≡ true → state_of (laid_out 0 params) (assignment_at params (state_place params s)) ≡ values s
values_there params s h = sym (values_state (laid_out 0 params) (assignment_at params (state_place params s))) ∙ ap values (state_there params s h)
