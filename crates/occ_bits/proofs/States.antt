-- The assignments of a layout's bits are the states of its variables.
use Rattle.std.proofs.Common.{◌≡◌, ℕ, ◌+◌, ◌*◌, ◌/◌, ◌%◌, ◌^◌, ◌<◌, ◌==◌, true, false, cond, List, [], ◌∷◌, Option, Some, None, refl, sym, ap, ◌∙◌, subst, arith, zero-add, ⊎_elim}
use Rattle.std.proofs.Math.Nat.{mod-lt, mod-eq_of_lt, div-div-eq-div-mul, div-one}
use Rattle.std.proofs.lemmas.Bool.{and_parts, cases_Bool, eqb-true, eq-eqb}
use Rattle.std.proofs.lemmas.Nat.{div-add-mod', mod-mul-add, pow_pos, pow-add}
use Rattle.occ_dd.specs.occ_base.declared.names.Name.{Name}
use Rattle.occ_dd.specs.occ_base.declared.width.Width.{Width}
use Rattle.occ_dd.specs.occ_base.Width.{bits_of}
use Rattle.occ_meaning.proofs.Facts.{none_not_some, some_is}
use Rattle.occ_syntax.specs.declared.scope.Kind.{Kind}
use Rattle.occ_syntax.specs.declared.scope.Kind.TheVariants.{Var, Chan}
use Rattle.occ_syntax.specs.Counts.{bits_of_scope}
use Rattle.occ_syntax.specs.Scopes.{Environment, IsState, Values, environment, variable_kind, variable_width}
use Rattle.occ_syntax.specs.Types.{scope_kept}
use Rattle.occ_bits.specs.Layout.{AreStates, IsLayout, assignment_of, entry_of, environment_in, laid_out, scope_in, state_of}
use Rattle.occ_bits.proofs.Laid.{found_state, found_width, fresh_first, laid_width, missing, same_pair}

-- ---- the state of an assignment
zero_there : (entries : List (Name × Width × ℕ)) (x y : ℕ) → entry_of entries y ≡ None → state_of entries x y ≡ 0
zero_there [] x y e = refl
zero_there ((n, v, g) ∷ entries) x y e = ⊎_elim
    (λ (t : (y == n.0) ≡ true). absurd (clash (v, g) (sym (ap (λ b. cond b (Some (v, g)) (entry_of entries y)) t) ∙ e)))
    (λ (t : (y == n.0) ≡ false). ap (λ b. cond b (x / 2 ^ g % 2 ^ bits_of v) (state_of entries x y)) t ∙ zero_there entries x y (sym (ap (λ b. cond b (Some (v, g)) (entry_of entries y)) t) ∙ e))
    (cases_Bool (y == n.0))
  where
    clash : (p : Width × ℕ) → Some p ≡ None → ⊥
    clash p q = cc

-- its values fit in every environment that has the layout's variables
pub state_fits : (entries : List (Name × Width × ℕ)) (Γ : Environment) → ((y : ℕ) (w : Width) → variable_width (environment_in entries) y ≡ Some w → variable_width Γ y ≡ Some w) → (x : ℕ) → IsState Γ (state_of entries x)
state_fits entries Γ within x y w e = each (entry_of entries y) refl
  where
    each : (o : Option (Width × ℕ)) → entry_of entries y ≡ o → state_of entries x y < 2 ^ bits_of w
    each None k = subst (λ n. n < 2 ^ bits_of w) (sym (zero_there entries x y k)) (pow_pos (bits_of w))
    each (Some (v, f)) k =
        let same : v ≡ w = some_is (sym (within y v (found_width entries y v f k)) ∙ e) in
        subst (λ u. state_of entries x y < 2 ^ bits_of u) same (subst (λ n. n < 2 ^ bits_of v) (sym (found_state entries y v f x k)) (mod-lt (x / 2 ^ f) (pow_pos (bits_of v))))

pub found_entry : (entries : List (Name × Width × ℕ)) (y : ℕ) (w : Width) → variable_width (environment_in entries) y ≡ Some w → (f : ℕ) × (entry_of entries y ≡ Some (w, f))
found_entry entries y w e = each (entry_of entries y) refl
  where
    each : (o : Option (Width × ℕ)) → entry_of entries y ≡ o → (f : ℕ) × (o ≡ Some (w, f))
    each None k = none_not_some (sym (missing entries y k) ∙ e)
    each (Some (v, f)) k =
        let same : v ≡ w = some_is (sym (found_width entries y v f k) ∙ e) in
        (f, ap (λ (u : Width). Some (u, f)) same)

-- ---- the assignment of a state

-- the variables of a scope as the digits of one number, the first the lowest
packed : List (Name × Kind) → Values → ℕ
packed [] s = 0
packed ((n, Var w) ∷ scope) s = s n.0 + 2 ^ bits_of w * packed scope s
packed ((n, Chan w d) ∷ scope) s = packed scope s

assigned : (a : ℕ) (scope : List (Name × Kind)) (s : Values) → assignment_of (laid_out a scope) s ≡ 2 ^ a * packed scope s
unfolding packed
assigned a [] s = omega arith
assigned a ((n, Var w) ∷ scope) s =
    let rest = assigned (a + bits_of w) scope s in
    let power : 2 ^ (a + bits_of w) ≡ 2 ^ a * 2 ^ bits_of w = pow-add 2 a (bits_of w) in
    ap (λ m. s n.0 * 2 ^ a + m) rest ∙ ap (λ p. s n.0 * 2 ^ a + p * packed scope s) power ∙ (omega arith)
assigned a ((n, Chan w d) ∷ scope) s = assigned a scope s

kept_rest : (entry : Name × Kind) (scope : List (Name × Kind)) → scope_kept (entry ∷ scope) ≡ true → scope_kept scope ≡ true
kept_rest entry scope h = (and_parts _ _ h).1

first_below : (n : Name) (w : Width) (scope : List (Name × Kind)) (s : Values) → IsState (environment ((n, Var w) ∷ scope)) s → s n.0 < 2 ^ bits_of w
first_below n w scope s state = state n.0 w (ap (λ b. variable_kind (cond b (Some (Var w)) (environment scope n.0))) (eq-eqb n.0 n.0 refl))

behind : (entry : Name × Kind) (scope : List (Name × Kind)) (y : ℕ) (w : Width) → scope_kept (entry ∷ scope) ≡ true → variable_width (environment scope) y ≡ Some w → (y == entry.0.0) ≡ false
behind entry scope y w kept e = ⊎_elim
    (λ (t : (y == entry.0.0) ≡ true). none_not_some (sym (ap variable_kind (ap (environment scope) (eqb-true _ _ t) ∙ fresh_first entry scope kept)) ∙ e))
    (λ (t : (y == entry.0.0) ≡ false). t)
    (cases_Bool (y == entry.0.0))

rest_state : (entry : Name × Kind) (scope : List (Name × Kind)) (s : Values) → scope_kept (entry ∷ scope) ≡ true → IsState (environment (entry ∷ scope)) s → IsState (environment scope) s
rest_state entry scope s kept state y w e = state y w (ap (λ b. variable_kind (cond b (Some entry.1) (environment scope y))) (behind entry scope y w kept e) ∙ e)

two_digits : (v p r m : ℕ) → v < p → m < r → v + p * m < p * r
two_digits v p r m h k = grind arith

packed_below : (scope : List (Name × Kind)) (s : Values) → scope_kept scope ≡ true → IsState (environment scope) s → packed scope s < 2 ^ bits_of_scope scope
unfolding packed
packed_below [] s kept state = omega arith
packed_below ((n, Var w) ∷ scope) s kept state =
    let first : s n.0 < 2 ^ bits_of w = first_below n w scope s state in
    let rest : packed scope s < 2 ^ bits_of_scope scope = packed_below scope s (and_parts _ _ kept).1 (rest_state (n, Var w) scope s kept state) in
    subst (λ m. s n.0 + 2 ^ bits_of w * packed scope s < m) (sym (pow-add 2 (bits_of w) (bits_of_scope scope))) (two_digits (s n.0) (2 ^ bits_of w) (2 ^ bits_of_scope scope) (packed scope s) first rest)
packed_below ((n, Chan w d) ∷ scope) s kept state =
    subst (λ m. packed scope s < 2 ^ m) (sym (zero-add (bits_of_scope scope))) (packed_below scope s (and_parts _ _ kept).1 (rest_state (n, Chan w d) scope s kept state))

low_of : (v p m : ℕ) → v < p → (v + p * m) % p ≡ v
low_of v p m h = grind arith

high_of : (v p m : ℕ) → v < p → (v + p * m) / p ≡ m
high_of v p m h = grind arith

-- the bits of a variable in a number that packs the scope from a bit on
unpacked : (a : ℕ) (scope : List (Name × Kind)) (s : Values) (whole y : ℕ) (w : Width) (f : ℕ) → scope_kept scope ≡ true → IsState (environment scope) s → whole / 2 ^ a ≡ packed scope s → entry_of (laid_out a scope) y ≡ Some (w, f) → whole / 2 ^ f % 2 ^ bits_of w ≡ s y
unfolding packed
unpacked a [] s whole y w f kept state e k = absurd (cc)
unpacked a ((n, Var v) ∷ scope) s whole y w f kept state e k = ⊎_elim
    (λ (t : (y == n.0) ≡ true).
    let same : (v, a) ≡ (w, f) = same_pair (v, a) (w, f) (sym (ap (λ b. cond b (Some (v, a)) (entry_of (laid_out (a + bits_of v) scope) y)) t) ∙ k) in
    sym (ap (λ (p : Width × ℕ). whole / 2 ^ p.1 % 2 ^ bits_of p.0) same) ∙ ap (λ m. m % 2 ^ bits_of v) e ∙ low_of (s n.0) (2 ^ bits_of v) (packed scope s) (first_below n v scope s state) ∙ ap s (sym (eqb-true y n.0 t)))
    (λ (t : (y == n.0) ≡ false). unpacked (a + bits_of v) scope s whole y w f (and_parts _ _ kept).1 (rest_state (n, Var v) scope s kept state)
    (ap (λ p. whole / p) (pow-add 2 a (bits_of v)) ∙ sym (div-div-eq-div-mul whole (2 ^ a) (2 ^ bits_of v)) ∙ ap (λ m. m / 2 ^ bits_of v) e ∙ high_of (s n.0) (2 ^ bits_of v) (packed scope s) (first_below n v scope s state))
    (sym (ap (λ b. cond b (Some (v, a)) (entry_of (laid_out (a + bits_of v) scope) y)) t) ∙ k))
    (cases_Bool (y == n.0))
unpacked a ((n, Chan v d) ∷ scope) s whole y w f kept state e k = unpacked a scope s whole y w f (and_parts _ _ kept).1 (rest_state (n, Chan v d) scope s kept state) e k

-- the whole number of some bits, from that of the lowest and the others
joined : (x a v r : ℕ) → x / 2 ^ a % 2 ^ v + 2 ^ v * (x / 2 ^ (a + v) % 2 ^ r) ≡ x / 2 ^ a % 2 ^ (v + r)
joined x a v r =
    ap (λ m. x / 2 ^ a % 2 ^ v + 2 ^ v * (m % 2 ^ r)) (ap (λ p. x / p) (pow-add 2 a v) ∙ sym (div-div-eq-div-mul x (2 ^ a) (2 ^ v)))
    ∙ digits (x / 2 ^ a) (2 ^ v) (2 ^ r) (pow_pos v) (pow_pos r) ∙ ap (λ p. x / 2 ^ a % p) (sym (pow-add 2 v r))
  where
    digits : (n p q : ℕ) → 0 < p → 0 < q → n % p + p * (n / p % q) ≡ n % (p * q)
    digits n p q h k =
        let low : n / p * p + n % p ≡ n = div-add-mod' n p in
        let high : n / p / q * q + n / p % q ≡ n / p = div-add-mod' (n / p) q in
        let times : (n / p / q * q + n / p % q) * p ≡ n / p * p = ap (λ m. m * p) high in
        let whole : n / p / q * (p * q) + (n % p + p * (n / p % q)) ≡ n = omega (arith, times, low) in
        sym (ap (λ m. m % (p * q)) (sym whole) ∙ mod-mul-add (n / p / q) (p * q) (n % p + p * (n / p % q)) (two_digits (n % p) p q (n / p % q) (mod-lt n h) (mod-lt (n / p) k)))

packed_again : (a : ℕ) (scope : List (Name × Kind)) (s : Values) (x : ℕ) → scope_kept scope ≡ true → ((y : ℕ) (w : Width) (f : ℕ) → entry_of (laid_out a scope) y ≡ Some (w, f) → s y ≡ x / 2 ^ f % 2 ^ bits_of w) → packed scope s ≡ x / 2 ^ a % 2 ^ bits_of_scope scope
unfolding packed
packed_again a [] s x kept h = omega arith
packed_again a ((n, Var w) ∷ scope) s x kept h =
    ap (λ m. m + 2 ^ bits_of w * packed scope s) (h n.0 w a (ap (λ b. cond b (Some (w, a)) (entry_of (laid_out (a + bits_of w) scope) n.0)) (eq-eqb n.0 n.0 refl)))
    ∙ ap (λ m. x / 2 ^ a % 2 ^ bits_of w + 2 ^ bits_of w * m) (packed_again (a + bits_of w) scope s x (and_parts _ _ kept).1 later)
    ∙ joined x a (bits_of w) (bits_of_scope scope)
  where
    later : (y : ℕ) (v : Width) (f : ℕ) → entry_of (laid_out (a + bits_of w) scope) y ≡ Some (v, f) → s y ≡ x / 2 ^ f % 2 ^ bits_of v
    later y v f k = h y v f (ap (λ b. cond b (Some (w, a)) (entry_of (laid_out (a + bits_of w) scope) y)) (behind (n, Var w) scope y v kept (sym (laid_width (a + bits_of w) scope y (kept_rest (n, Var w) scope kept)) ∙ found_width (laid_out (a + bits_of w) scope) y v f k)) ∙ k)
packed_again a ((n, Chan w d) ∷ scope) s x kept h = packed_again a scope s x (and_parts _ _ kept).1 h ∙ ap (λ m. x / 2 ^ a % 2 ^ m) (sym (zero-add (bits_of_scope scope)))

-- ---- all together
whole_number : (entries : List (Name × Width × ℕ)) → IsLayout entries → (s : Values) → assignment_of entries s ≡ packed (scope_in entries) s
whole_number entries is s = ap (λ es. assignment_of es s) is.laid ∙ assigned 0 (scope_in entries) s ∙ one_time (packed (scope_in entries) s)
  where
    one_time : (n : ℕ) → 2 ^ 0 * n ≡ n
    one_time n = omega arith

pub state_back : (entries : List (Name × Width × ℕ)) → IsLayout entries → (s : Values) → IsState (environment_in entries) s → (y : ℕ) (w : Width) → variable_width (environment_in entries) y ≡ Some w → state_of entries (assignment_of entries s) y ≡ s y
state_back entries is s state y w e =
    let found = found_entry entries y w e in
    found_state entries y w found.0 (assignment_of entries s) found.1
    ∙ unpacked 0 (scope_in entries) s (assignment_of entries s) y w found.0 is.scope state (div-one (assignment_of entries s) ∙ whole_number entries is s) (ap (λ es. entry_of es y) (sym is.laid) ∙ found.1)

pub are_states : (entries : List (Name × Width × ℕ)) → IsLayout entries → AreStates entries
are_states entries is = record {
  state = state_fits entries (environment_in entries) (λ y w e. e);
  small = λ s state. subst (λ n. n < 2 ^ bits_of_scope (scope_in entries)) (sym (whole_number entries is s)) (packed_below (scope_in entries) s is.scope state);
  back = state_back entries is;
  again = λ x h. whole_number entries is (state_of entries x) ∙ packed_again 0 (scope_in entries) (state_of entries x) x is.scope (λ y w f k. found_state entries y w f x (ap (λ es. entry_of es y) is.laid ∙ k)) ∙ ap (λ n. n % 2 ^ bits_of_scope (scope_in entries)) (div-one x) ∙ mod-eq_of_lt h;
}
