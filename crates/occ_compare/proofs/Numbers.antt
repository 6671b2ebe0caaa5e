-- The assignments of an interface in the order of their states.
use Rattle.std.proofs.Common.{◌≡◌, ◌≤◌, ◌<◌, ◌+◌, ◌-◌, ◌*◌, ◌/◌, ◌%◌, ◌^◌, ◌==◌, ◌&&◌, ◌||◌, ℕ, zero, suc, Bool, true, false, nat_lt, nat_le, is_none, List, [], ◌∷◌, length, get_or, drop, drop-cons, refl, sym, ap, ◌∙◌, subst, arith, ⊎_elim}
use Rattle.std.proofs.Math.Nat.{mod-lt, div-lt_iff_lt-mul, mod-eq_of_lt, pow-le-pow_right, mul-le-mul_right}
use Rattle.std.proofs.lemmas.Nat.{pow_pos, pow-add}
use Rattle.std.proofs.lemmas.Bool.{and_parts, or_cases, eqb-true, ltb-true, leb-true, ltb-false, cases_Bool}
use mathlib.Core.Path.{fun_ext}
use Rattle.occ_syntax.specs.occ_base.declared.names.Name.{Name}
use Rattle.occ_syntax.specs.occ_base.declared.width.Width.{Width}
use Rattle.occ_syntax.specs.occ_base.declared.width.Width.TheVariants.{Bool as TruthValue, Word}
use Rattle.occ_syntax.specs.occ_base.Width.{bits_of}
use Rattle.occ_syntax.specs.declared.scope.Kind.{Kind}
use Rattle.occ_syntax.specs.declared.scope.Kind.TheVariants.{Var, Chan}
use Rattle.occ_syntax.specs.Counts.{bits_of_kind, bits_of_scope}
use Rattle.occ_syntax.specs.Types.{scope_kept, is_width, width_of_kind, can_declare}
use Rattle.occ_syntax.specs.Scopes.{environment}
use Rattle.occ_behaviour.specs.States.{state_less}
use Rattle.occ_bits.specs.Layout.{laid_out}
use Rattle.occ_compare.specs.Places.{values_at, state_at, rest_state, byte_state, assignment_at, number_in}

-- ---- two digits
high_of : (v r m : ℕ) → m < r → (v * r + m) / r ≡ v
high_of v r m h = grind arith

low_of : (v r m : ℕ) → m < r → (v * r + m) % r ≡ m
low_of v r m h = grind arith

below_of : (v a p r : ℕ) → v < p → a < r → v + p * a < p * r
below_of v a p r h k = grind arith

below_turned : (v p r m : ℕ) → v < p → m < r → v * r + m < p * r
below_turned v p r m h k = grind arith

whole : (k r : ℕ) → 0 < r → k / r * r + k % r ≡ k
whole k r h = grind arith

turned : (v p a : ℕ) → v + p * a ≡ a * p + v
turned v p a = omega arith

high_first : (v p a : ℕ) → v < p → (v + p * a) / p ≡ a
high_first v p a h = ap (λ n. n / p) (turned v p a) ∙ high_of a p v h

low_first : (v p a : ℕ) → v < p → (v + p * a) % p ≡ v
low_first v p a h = ap (λ n. n % p) (turned v p a) ∙ low_of a p v h

joined : (x p r m q s t : ℕ) → q * p + m ≡ x → s * r + t ≡ q → x ≡ s * (p * r) + (m + p * t)
joined x p r m q s t h k = let e : (s * r + t) * p + m ≡ x = subst (λ n. n * p + m ≡ x) (sym k) h in omega arith

mod_mul : (x p r : ℕ) → 0 < p → 0 < r → x % p + p * (x / p % r) ≡ x % (p * r)
mod_mul x p r h k =
    let m : x % p < p = mod-lt x h in
    let t : x / p % r < r = mod-lt (x / p) k in
    let small : x % p + p * (x / p % r) < p * r = below_of (x % p) (x / p % r) p r m t in
    let is : x ≡ x / p / r * (p * r) + (x % p + p * (x / p % r)) = joined x p r (x % p) (x / p) (x / p / r) (x / p % r) (whole x p h) (whole (x / p) r k) in
    sym (ap (λ n. n % (p * r)) is ∙ low_of (x / p / r) (p * r) (x % p + p * (x / p % r)) small)

div_mul : (x p r : ℕ) → 0 < p → 0 < r → x / p / r ≡ x / (p * r)
div_mul x p r h k =
    let m : x % p < p = mod-lt x h in
    let t : x / p % r < r = mod-lt (x / p) k in
    let small : x % p + p * (x / p % r) < p * r = below_of (x % p) (x / p % r) p r m t in
    let is : x ≡ x / p / r * (p * r) + (x % p + p * (x / p % r)) = joined x p r (x % p) (x / p) (x / p / r) (x / p % r) (whole x p h) (whole (x / p) r k) in
    sym (ap (λ n. n / (p * r)) is ∙ high_of (x / p / r) (p * r) (x % p + p * (x / p % r)) small)

pub high_part : (b r k : ℕ) → k < 2 ^ (b + r) → k / 2 ^ r < 2 ^ b
high_part b r k h = (div-lt_iff_lt-mul (pow_pos r)).1 (subst (λ n. k < n) (pow-add 2 b r) h)

-- ---- places and assignments
pub small : (ps : List (Name × Kind)) (k : ℕ) → k < 2 ^ bits_of_scope ps → assignment_at ps k < 2 ^ bits_of_scope ps
small [] k h = omega arith
small (e ∷ ps) k h =
    let b : ℕ = bits_of_kind e.1 in
    let r : ℕ = bits_of_scope ps in
    let v : k / 2 ^ r < 2 ^ b = high_part b r k h in
    let a : assignment_at ps (k % 2 ^ r) < 2 ^ r = small ps (k % 2 ^ r) (mod-lt k (pow_pos r)) in
    subst (λ n. assignment_at (e ∷ ps) k < n) (sym (pow-add 2 b r)) (below_of (k / 2 ^ r) (assignment_at ps (k % 2 ^ r)) (2 ^ b) (2 ^ r) v a)

pub below : (ps : List (Name × Kind)) (x : ℕ) → number_in ps x < 2 ^ bits_of_scope ps
below [] x = omega arith
below (e ∷ ps) x =
    let b : ℕ = bits_of_kind e.1 in
    let r : ℕ = bits_of_scope ps in
    subst (λ n. number_in (e ∷ ps) x < n) (sym (pow-add 2 b r)) (below_turned (x % 2 ^ b) (2 ^ b) (2 ^ r) (number_in ps (x / 2 ^ b)) (mod-lt x (pow_pos b)) (below ps (x / 2 ^ b)))

pub again : (ps : List (Name × Kind)) (x : ℕ) → assignment_at ps (number_in ps x) ≡ x % 2 ^ bits_of_scope ps
again [] x = omega arith
again (e ∷ ps) x =
    let b : ℕ = bits_of_kind e.1 in
    let r : ℕ = bits_of_scope ps in
    let n : ℕ = number_in ps (x / 2 ^ b) in
    let less : n < 2 ^ r = below ps (x / 2 ^ b) in
    let high : (x % 2 ^ b * 2 ^ r + n) / 2 ^ r ≡ x % 2 ^ b = high_of (x % 2 ^ b) (2 ^ r) n less in
    let low : (x % 2 ^ b * 2 ^ r + n) % 2 ^ r ≡ n = low_of (x % 2 ^ b) (2 ^ r) n less in
    let rest : assignment_at ps n ≡ x / 2 ^ b % 2 ^ r = again ps (x / 2 ^ b) in
    (λ i. high i + 2 ^ b * assignment_at ps (low i)) ∙ ap (λ a. x % 2 ^ b + 2 ^ b * a) rest ∙ mod_mul x (2 ^ b) (2 ^ r) (pow_pos b) (pow_pos r) ∙ ap (λ n. x % n) (sym (pow-add 2 b r))

pub back : (ps : List (Name × Kind)) (k : ℕ) → k < 2 ^ bits_of_scope ps → number_in ps (assignment_at ps k) ≡ k
back [] k h = omega (arith, h)
back (e ∷ ps) k h =
    let b : ℕ = bits_of_kind e.1 in
    let r : ℕ = bits_of_scope ps in
    let v : k / 2 ^ r < 2 ^ b = high_part b r k h in
    let a : ℕ = assignment_at ps (k % 2 ^ r) in
    let low : (k / 2 ^ r + 2 ^ b * a) % 2 ^ b ≡ k / 2 ^ r = low_first (k / 2 ^ r) (2 ^ b) a v in
    let high : (k / 2 ^ r + 2 ^ b * a) / 2 ^ b ≡ a = high_first (k / 2 ^ r) (2 ^ b) a v in
    let rest : number_in ps a ≡ k % 2 ^ r = back ps (k % 2 ^ r) (mod-lt k (pow_pos r)) in
    (λ i. low i * 2 ^ r + number_in ps (high i)) ∙ ap (λ n. k / 2 ^ r * 2 ^ r + n) rest ∙ whole k (2 ^ r) (pow_pos r)

-- ---- states
pub state_rest : (ps : List (Name × Kind)) (f x : ℕ) → values_at (laid_out f ps) x ≡ rest_state ps (x / 2 ^ f)
state_rest [] f x = refl
state_rest ((n, Chan w d) ∷ ps) f x = state_rest ps f x
state_rest ((n, Var w) ∷ ps) f x =
    let step : x / 2 ^ (f + bits_of w) ≡ x / 2 ^ f / 2 ^ bits_of w = ap (λ m. x / m) (pow-add 2 f (bits_of w)) ∙ sym (div_mul x (2 ^ f) (2 ^ bits_of w) (pow_pos f) (pow_pos (bits_of w))) in
    ap (λ l. (n, x / 2 ^ f % 2 ^ bits_of w) ∷ l) (state_rest ps (f + bits_of w) x ∙ ap (rest_state ps) step)

pub state_is : (ps : List (Name × Kind)) (x : ℕ) → state_at ps x ≡ rest_state ps x
state_is ps x = state_rest ps 0 x ∙ ap (rest_state ps) (by_one x)
  where
    by_one : (x : ℕ) → x / 2 ^ 0 ≡ x
    by_one x = omega arith

no_bits : (ps : List (Name × Kind)) (x : ℕ) → x % 2 ^ 0 * 2 ^ bits_of_scope ps + number_in ps (x / 2 ^ 0) ≡ number_in ps x
no_bits ps x =
    let low : x % 2 ^ 0 ≡ 0 = omega arith in
    let high : x / 2 ^ 0 ≡ x = omega arith in
    let none : 0 * 2 ^ bits_of_scope ps + number_in ps x ≡ number_in ps x = omega arith in
    (λ i. low i * 2 ^ bits_of_scope ps + number_in ps (high i)) ∙ none

rest_less : (ps : List (Name × Kind)) (x y : ℕ) → state_less (rest_state ps x) (rest_state ps y) ≡ true → number_in ps x < number_in ps y
rest_less [] x y h = absurd (cc)
rest_less ((n, Chan w d) ∷ ps) x y h = subst (λ m. m < number_in ((n, Chan w d) ∷ ps) y) (sym (no_bits ps x)) (subst (λ m. number_in ps x < m) (sym (no_bits ps y)) (rest_less ps x y h))
rest_less ((n, Var w) ∷ ps) x y h =
    let u : ℕ = x % 2 ^ bits_of w in
    let v : ℕ = y % 2 ^ bits_of w in
    let a : ℕ = number_in ps (x / 2 ^ bits_of w) in
    let b : ℕ = number_in ps (y / 2 ^ bits_of w) in
    let r : ℕ = 2 ^ bits_of_scope ps in
    ⊎_elim
    (λ (t : nat_lt u v ≡ true). ahead u v r a b (ltb-true u v t) (below ps (x / 2 ^ bits_of w)))
    (λ (t : (u == v && state_less (rest_state ps (x / 2 ^ bits_of w)) (rest_state ps (y / 2 ^ bits_of w))) ≡ true).
    let both = and_parts (u == v) (state_less (rest_state ps (x / 2 ^ bits_of w)) (rest_state ps (y / 2 ^ bits_of w))) t in
    behind u v r a b (eqb-true u v both.0) (rest_less ps (x / 2 ^ bits_of w) (y / 2 ^ bits_of w) both.1))
    (or_cases (nat_lt u v) (u == v && state_less (rest_state ps (x / 2 ^ bits_of w)) (rest_state ps (y / 2 ^ bits_of w))) h)
  where
    ahead : (u v r a b : ℕ) → u < v → a < r → u * r + a < v * r + b
    ahead u v r a b h k = grind arith

    behind : (u v r a b : ℕ) → u ≡ v → a < b → u * r + a < v * r + b
    behind u v r a b h k = subst (λ m. u * r + a < m * r + b) h (omega arith)

-- a lesser state has a lesser place
pub less : (ps : List (Name × Kind)) (x y : ℕ) → state_less (state_at ps x) (state_at ps y) ≡ true → number_in ps x < number_in ps y
less ps x y h = rest_less ps x y (sym (λ i. state_less (state_is ps x i) (state_is ps y i)) ∙ h)

first_value : List (Name × ℕ) → ℕ
first_value [] = 0
first_value (v ∷ vs) = v.1

behind_first : List (Name × ℕ) → List (Name × ℕ)
behind_first [] = []
behind_first (v ∷ vs) = vs

rest_same : (ps : List (Name × Kind)) (x y : ℕ) → rest_state ps x ≡ rest_state ps y → number_in ps x ≡ number_in ps y
unfolding first_value behind_first
rest_same [] x y h = refl
rest_same ((n, Chan w d) ∷ ps) x y h = no_bits ps x ∙ rest_same ps x y h ∙ sym (no_bits ps y)
rest_same ((n, Var w) ∷ ps) x y h =
    let value : x % 2 ^ bits_of w ≡ y % 2 ^ bits_of w = ap first_value h in
    let rest : number_in ps (x / 2 ^ bits_of w) ≡ number_in ps (y / 2 ^ bits_of w) = rest_same ps (x / 2 ^ bits_of w) (y / 2 ^ bits_of w) (ap behind_first h) in
    λ i. value i * 2 ^ bits_of_scope ps + rest i

-- equal states have equal places, and so equal bits of the interface
pub same : (ps : List (Name × Kind)) (x y : ℕ) → state_at ps x ≡ state_at ps y → x % 2 ^ bits_of_scope ps ≡ y % 2 ^ bits_of_scope ps
same ps x y h = sym (again ps x) ∙ ap (assignment_at ps) (rest_same ps x y (sym (state_is ps x) ∙ h ∙ state_is ps y)) ∙ again ps y

-- the values of a scope are bytes
few_bits : (w : Width) → is_width w ≡ true → bits_of w ≤ 8
few_bits TruthValue h = omega arith
few_bits (Word bits) h = leb-true bits 8 (and_parts (nat_le 1 bits) (nat_le bits 8) h).1

byte_of : (w x : ℕ) → w ≤ 8 → x % 2 ^ w % 256 ≡ x % 2 ^ w
byte_of w x h =
    let small : x % 2 ^ w < 2 ^ w = mod-lt x (pow_pos w) in
    let most : 2 ^ w ≤ 2 ^ 8 = pow-le-pow_right (omega arith) h in
    mod-eq_of_lt (omega arith)

rest_bytes : (ps : List (Name × Kind)) (x : ℕ) → scope_kept ps ≡ true → byte_state ps x ≡ rest_state ps x
rest_bytes [] x h = refl
rest_bytes ((n, Chan w d) ∷ ps) x h = rest_bytes ps x (and_parts (can_declare (environment ps) n.0 w) (scope_kept ps) h).1
rest_bytes ((n, Var w) ∷ ps) x h =
    let p = and_parts (can_declare (environment ps) n.0 w) (scope_kept ps) h in
    let width : is_width w ≡ true = (and_parts (is_none (environment ps n.0)) (is_width w) p.0).1 in
    let value : x % 2 ^ bits_of w % 256 ≡ x % 2 ^ bits_of w = byte_of (bits_of w) x (few_bits w width) in
    let rest : byte_state ps (x / 2 ^ bits_of w) ≡ rest_state ps (x / 2 ^ bits_of w) = rest_bytes ps (x / 2 ^ bits_of w) p.1 in
    λ i. (n, value i) ∷ rest i

pub bytes : (ps : List (Name × Kind)) → scope_kept ps ≡ true → byte_state ps ≡ state_at ps
bytes ps h = fun_ext (λ x. rest_bytes ps x h ∙ sym (state_is ps x))

-- ---- numbers of 64 bits
pub large : (n b : ℕ) → n < 2 ^ 64 → 64 ≤ b → n < 2 ^ b
large n b h k = let most : 2 ^ 64 ≤ 2 ^ b = pow-le-pow_right (omega arith) k in omega arith

pub none_above : (n b : ℕ) → n < 2 ^ 64 → 64 ≤ b → 0 ≡ n / 2 ^ b
none_above n b h k = sym (ap (λ m. m / 2 ^ b) (with_none n (2 ^ b)) ∙ high_of 0 (2 ^ b) n (large n b h k))
  where
    with_none : (n d : ℕ) → n ≡ 0 * d + n
    with_none n d = omega arith

pub few_places : (n b : ℕ) → 0 < n → n * 2 ^ b < 2 ^ 64 → b < 64
few_places n b h k = ⊎_elim
    (λ (t : nat_lt b 64 ≡ true). ltb-true b 64 t)
    (λ (f : nat_lt b 64 ≡ false).
    let most : 2 ^ 64 ≤ 2 ^ b = pow-le-pow_right (omega arith) (ltb-false b 64 f) in
    absurd (too_large n (2 ^ b) h k most))
    (cases_Bool (nat_lt b 64))
  where
    too_large : (n p : ℕ) → 0 < n → n * p < 2 ^ 64 → 2 ^ 64 ≤ p → ⊥
    too_large n p h k m = let more : 1 * p ≤ n * p = mul-le-mul_right p h in omega arith

-- ---- a step of an assignment
pub part_small : (a v f b : ℕ) → a < 2 ^ f → v < 2 ^ b → a + v * 2 ^ f < 2 ^ (f + b)
part_small a v f b h k = subst (λ n. a + v * 2 ^ f < n) (sym (pow-add 2 f b)) (joined_small a v (2 ^ f) (2 ^ b) h k)
  where
    joined_small : (a v p q : ℕ) → a < p → v < q → a + v * p < p * q
    joined_small a v p q h k = grind arith

pub part_so_far : (e : Name × Kind) (ps : List (Name × Kind)) (a f n whole : ℕ) → a + 2 ^ f * assignment_at (e ∷ ps) n ≡ whole
    → a + n / 2 ^ bits_of_scope ps * 2 ^ f + 2 ^ (f + bits_of_kind e.1) * assignment_at ps (n % 2 ^ bits_of_scope ps) ≡ whole
part_so_far e ps a f n whole h = ap (λ p. a + n / 2 ^ bits_of_scope ps * 2 ^ f + p * assignment_at ps (n % 2 ^ bits_of_scope ps)) (pow-add 2 f (bits_of_kind e.1))
    ∙ sorted a (n / 2 ^ bits_of_scope ps) (2 ^ f) (2 ^ bits_of_kind e.1) (assignment_at ps (n % 2 ^ bits_of_scope ps)) ∙ h
  where
    sorted : (a v p q r : ℕ) → a + v * p + p * q * r ≡ a + p * (v + q * r)
    sorted a v p q r = omega arith

module _ (ps : List (Name × Kind)) (i : ℕ) (d : Name × Kind) (h : i < length ps) (rest b : ℕ) (bits : b ≡ bits_of_kind (get_or ps i d).1) (left : rest ≡ bits_of_scope (drop i ps)) where
  here : drop i ps ≡ get_or ps i d ∷ drop (i + 1) ps
  here = let next : suc i ≡ i + 1 = omega arith in drop-cons ps i d h ∙ ap (λ n. get_or ps i d ∷ drop n ps) next

  pub bits_left : rest ≡ b + bits_of_scope (drop (i + 1) ps)
  bits_left = left ∙ ap bits_of_scope here ∙ ap (λ n. n + bits_of_scope (drop (i + 1) ps)) (sym bits)

  pub rest_left : rest - b ≡ bits_of_scope (drop (i + 1) ps)
  rest_left = let e : rest ≡ b + bits_of_scope (drop (i + 1) ps) = bits_left in omega arith

  pub value_small : (number v : ℕ) → number < 2 ^ rest → v ≡ number / 2 ^ (rest - b) → v < 2 ^ b
  value_small number v k is = subst (λ n. n < 2 ^ b) (sym (is ∙ ap (λ r. number / 2 ^ r) rest_left))
      (high_part b (bits_of_scope (drop (i + 1) ps)) number (subst (λ r. number < 2 ^ r) bits_left k))

  pub value_fits : (a f number v : ℕ) → a < 2 ^ f → f + rest ≤ 64 → number < 2 ^ rest → v ≡ number / 2 ^ (rest - b) → a + v * 2 ^ f < 2 ^ 64
  value_fits a f number v small few k is =
      let part : a + v * 2 ^ f < 2 ^ (f + b) = part_small a v f b small (value_small number v k is) in
      let e : rest ≡ b + bits_of_scope (drop (i + 1) ps) = bits_left in
      let within : f + b ≤ 64 = omega arith in
      let most : 2 ^ (f + b) ≤ 2 ^ 64 = pow-le-pow_right (omega arith) within in
      omega arith

  pub so_far_more : (a f number v low whole : ℕ) → v ≡ number / 2 ^ (rest - b) → low ≡ number % 2 ^ (rest - b) → a + 2 ^ f * assignment_at (drop i ps) number ≡ whole
      → a + v * 2 ^ f + 2 ^ (f + b) * assignment_at (drop (i + 1) ps) low ≡ whole
  so_far_more a f number v low whole high is e =
      let one : v ≡ number / 2 ^ bits_of_scope (drop (i + 1) ps) = high ∙ ap (λ r. number / 2 ^ r) rest_left in
      let two : low ≡ number % 2 ^ bits_of_scope (drop (i + 1) ps) = is ∙ ap (λ r. number % 2 ^ r) rest_left in
      (λ j. a + one j * 2 ^ f + 2 ^ (f + bits j) * assignment_at (drop (i + 1) ps) (two j))
      ∙ part_so_far (get_or ps i d) (drop (i + 1) ps) a f number whole (ap (λ l. a + 2 ^ f * assignment_at l number) (sym here) ∙ e)
