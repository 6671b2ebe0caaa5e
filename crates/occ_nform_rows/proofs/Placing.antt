-- The places of states, and the states of places.
use Rattle.std.proofs.Common.{◌≡◌, ◌≤◌, ◌<◌, ◌+◌, ◌*◌, ◌/◌, ◌%◌, ◌^◌, ◌==◌, ◌||◌, ◌&&◌, ℕ, suc, true, nat_lt, nat_le, is_none, List, [], ◌∷◌, map, length, get_or, drop, drop-cons, refl, sym, ap, ◌∙◌, subst, arith, eq-eqb}
use Rattle.std.specs.List.{list_any, list_all, AllByRecursion}
use Rattle.std.specs.Ordering.{is_lt, nat_cmp, on}
use Rattle.std.proofs.Math.Nat.{mod-lt, mod-eq_of_lt, pow-le-pow_right}
use Rattle.std.proofs.lemmas.Bool.{and_parts, and_from, lt-ltb, leb-true, or_left, or_right}
use Rattle.std.proofs.lemmas.Nat.{pow_pos, pow-add}
use Rattle.occ_syntax.specs.occ_base.declared.names.Name.{Name}
use Rattle.occ_syntax.specs.occ_base.declared.width.Width.{Width}
use Rattle.occ_syntax.specs.occ_base.declared.width.Width.TheVariants.{Bool as TruthValue, Word}
use Rattle.occ_syntax.specs.occ_base.Width.{bits_of}
use Rattle.occ_syntax.specs.declared.scope.Kind.{Kind}
use Rattle.occ_syntax.specs.declared.scope.Kind.TheVariants.{Var, Chan}
use Rattle.occ_syntax.specs.Counts.{bits_of_kind, bits_of_scope}
use Rattle.occ_syntax.specs.Types.{scope_kept, is_width, width_of_kind, can_declare}
use Rattle.occ_syntax.specs.Scopes.{environment}
use Rattle.occ_nform_table.specs.occ_behaviour.States.{is_state}
use Rattle.occ_compare.specs.occ_accept.Order.{strict}
use Rattle.occ_compare.specs.Places.{number_in}
use Rattle.occ_compare.proofs.Numbers.{high_part, below}
use Rattle.occ_nform_table.specs.Lines.{state_place}
use Rattle.occ_nform_rows.specs.Ends.{byte_state_at, has_number}

-- ---- a step of a place

place_step : (e : Name × Kind) (ps : List (Name × Kind)) (p x whole : ℕ) → p * 2 ^ bits_of_scope (e ∷ ps) + number_in (e ∷ ps) x ≡ whole
    → (p * 2 ^ bits_of_kind e.1 + x % 2 ^ bits_of_kind e.1) * 2 ^ bits_of_scope ps + number_in ps (x / 2 ^ bits_of_kind e.1) ≡ whole
place_step e ps p x whole h = sorted p (2 ^ bits_of_kind e.1) (2 ^ bits_of_scope ps) (x % 2 ^ bits_of_kind e.1) (number_in ps (x / 2 ^ bits_of_kind e.1))
    ∙ ap (λ n. p * n + number_in (e ∷ ps) x) (sym (pow-add 2 (bits_of_kind e.1) (bits_of_scope ps))) ∙ h
  where
    sorted : (p a b v n : ℕ) → (p * a + v) * b + n ≡ p * (a * b) + (v * b + n)
    sorted p a b v n = omega arith

module _ (ps : List (Name × Kind)) (i : ℕ) (d : Name × Kind) (h : i < length ps) where
  here : drop i ps ≡ get_or ps i d ∷ drop (i + 1) ps
  here = let next : suc i ≡ i + 1 = omega arith in drop-cons ps i d h ∙ ap (λ n. get_or ps i d ∷ drop n ps) next

  pub bits_here : bits_of_scope (drop i ps) ≡ bits_of_kind (get_or ps i d).1 + bits_of_scope (drop (i + 1) ps)
  bits_here = ap bits_of_scope here

  pub place_more : (b size place rest whole : ℕ) → b ≡ bits_of_kind (get_or ps i d).1 → size ≡ 2 ^ b → place * 2 ^ bits_of_scope (drop i ps) + number_in (drop i ps) rest ≡ whole
      → (place * size + rest % size) * 2 ^ bits_of_scope (drop (i + 1) ps) + number_in (drop (i + 1) ps) (rest / size) ≡ whole
  place_more b size place rest whole bits is so_far =
      let two : size ≡ 2 ^ bits_of_kind (get_or ps i d).1 = is ∙ ap (λ n. 2 ^ n) bits in
      (λ j. (place * two j + rest % two j) * 2 ^ bits_of_scope (drop (i + 1) ps) + number_in (drop (i + 1) ps) (rest / two j))
      ∙ place_step (get_or ps i d) (drop (i + 1) ps) place rest whole ((λ j. place * 2 ^ bits_of_scope (sym here j) + number_in (sym here j) rest) ∙ so_far)

-- the rest has no more bits
pub fewer_bits : (ps : List (Name × Kind)) (i b : ℕ) (d : Name × Kind) → i < length ps → b ≡ bits_of_kind (get_or ps i d).1 → bits_of_scope (drop i ps) ≤ 16 → bits_of_scope (drop (i + 1) ps) ≤ 16
fewer_bits ps i b d h is few = let all : bits_of_scope (drop i ps) ≡ bits_of_kind (get_or ps i d).1 + bits_of_scope (drop (i + 1) ps) = bits_here ps i d h in omega arith

place_least : (a r n whole : ℕ) → 0 < r → a * r + n ≡ whole → a ≤ whole
place_least a r n whole h e = grind arith

-- a part of a place is small
pub place_fits : (ps : List (Name × Kind)) (a r n x : ℕ) → bits_of_scope ps ≤ 16 → a * 2 ^ r + n ≡ number_in ps x → a < 2 ^ 16
place_fits ps a r n x few e =
    let least : a ≤ number_in ps x = place_least a (2 ^ r) n (number_in ps x) (pow_pos r) e in
    let small : number_in ps x < 2 ^ bits_of_scope ps = below ps x in
    let most : 2 ^ bits_of_scope ps ≤ 2 ^ 16 = pow-le-pow_right (omega arith) few in
    omega arith

-- ---- the values of a scope are bytes
few_bits : (w : Width) → is_width w ≡ true → bits_of w ≤ 8
few_bits TruthValue h = omega arith
few_bits (Word bits) h = leb-true bits 8 (and_parts (nat_le 1 bits) (nat_le bits 8) h).1

pub kept_width : (e : Name × Kind) (ps : List (Name × Kind)) → scope_kept (e ∷ ps) ≡ true → bits_of (width_of_kind e.1) ≤ 8
kept_width e ps h =
    let p = and_parts (can_declare (environment ps) e.0.0 (width_of_kind e.1)) (scope_kept ps) h in
    few_bits (width_of_kind e.1) (and_parts (is_none (environment ps e.0.0)) (is_width (width_of_kind e.1)) p.0).1

pub kept_rest : (e : Name × Kind) (ps : List (Name × Kind)) → scope_kept (e ∷ ps) ≡ true → scope_kept ps ≡ true
kept_rest e ps h = (and_parts (can_declare (environment ps) e.0.0 (width_of_kind e.1)) (scope_kept ps) h).1

byte_small : (v w : ℕ) → v < 2 ^ w → w ≤ 8 → v % 256 ≡ v
byte_small v w h k = let most : 2 ^ w ≤ 2 ^ 8 = pow-le-pow_right (omega arith) k in mod-eq_of_lt (omega arith)

no_bits : (r k : ℕ) → k < 2 ^ (0 + r) → k < 2 ^ r
no_bits r k h = let none : 0 + r ≡ r = omega arith in subst (λ n. k < 2 ^ n) none h

whole : (k r : ℕ) → 0 < r → k / r * r + k % r ≡ k
whole k r h = grind arith

-- the state at a place has that place
pub place_back : (ps : List (Name × Kind)) (k : ℕ) → scope_kept ps ≡ true → k < 2 ^ bits_of_scope ps → state_place ps (byte_state_at ps k) ≡ k
place_back [] k kept h = omega arith
place_back ((n, Chan w d) ∷ ps) k kept h = place_back ps k (kept_rest (n, Chan w d) ps kept) (no_bits (bits_of_scope ps) k h)
place_back ((n, Var w) ∷ ps) k kept h =
    let r : ℕ = 2 ^ bits_of_scope ps in
    let value : k / r % 256 ≡ k / r = byte_small (k / r) (bits_of w) (high_part (bits_of w) (bits_of_scope ps) k h) (kept_width (n, Var w) ps kept) in
    let rest : state_place ps (byte_state_at ps (k % r)) ≡ k % r = place_back ps (k % r) (kept_rest (n, Var w) ps kept) (mod-lt k (pow_pos (bits_of_scope ps))) in
    (λ i. value i * r + rest i) ∙ whole k r (pow_pos (bits_of_scope ps))

-- and is a state
pub place_state : (ps : List (Name × Kind)) (k : ℕ) → scope_kept ps ≡ true → k < 2 ^ bits_of_scope ps → is_state ps (byte_state_at ps k) ≡ true
place_state [] k kept h = refl
place_state ((n, Chan w d) ∷ ps) k kept h = place_state ps k (kept_rest (n, Chan w d) ps kept) (no_bits (bits_of_scope ps) k h)
place_state ((n, Var w) ∷ ps) k kept h =
    let r : ℕ = 2 ^ bits_of_scope ps in
    let high : k / r < 2 ^ bits_of w = high_part (bits_of w) (bits_of_scope ps) k h in
    let value : k / r % 256 ≡ k / r = byte_small (k / r) (bits_of w) high (kept_width (n, Var w) ps kept) in
    let rest : is_state ps (byte_state_at ps (k % r)) ≡ true = place_state ps (k % r) (kept_rest (n, Var w) ps kept) (mod-lt k (pow_pos (bits_of_scope ps))) in
    and_from ((n.0 == n.0) && nat_lt (k / r % 256) (2 ^ bits_of w)) (is_state ps (byte_state_at ps (k % r)))
    (and_from (n.0 == n.0) (nat_lt (k / r % 256) (2 ^ bits_of w)) (eq-eqb n.0 n.0 refl) (lt-ltb (k / r % 256) (2 ^ bits_of w) (subst (λ m. m < 2 ^ bits_of w) (sym value) high))) rest

-- ---- the states of some places
module _ (ps : List (Name × Kind)) (kept : scope_kept ps ≡ true) where
  abbrev AreSmall : List ℕ → Type 0
  AreSmall places = (k : ℕ) → has_number places k ≡ true → k < 2 ^ bits_of_scope ps

  first_small : (k : ℕ) (ks : List ℕ) → AreSmall (k ∷ ks) → k < 2 ^ bits_of_scope ps
  first_small k ks h = h k (or_left (k == k) (has_number ks k) (eq-eqb k k refl))

  rest_small : (k : ℕ) (ks : List ℕ) → AreSmall (k ∷ ks) → AreSmall ks
  rest_small k ks h n e = h n (or_right (k == n) (has_number ks n) e)

  pub states_members : (ks : List ℕ) → AreSmall ks → (k : ℕ) → list_any (λ state. state_place ps state == k) (map (byte_state_at ps) ks) ≡ has_number ks k
  states_members [] small k = refl
  states_members (n ∷ ks) small k =
      let back : state_place ps (byte_state_at ps n) ≡ n = place_back ps n kept (first_small n ks small) in
      let rest : list_any (λ state. state_place ps state == k) (map (byte_state_at ps) ks) ≡ has_number ks k = states_members ks (rest_small n ks small) k in
      λ i. (back i == k) || rest i

  pub states_are : (ks : List ℕ) → AreSmall ks → AllByRecursion (λ state. is_state ps state ≡ true) (map (byte_state_at ps) ks)
  states_are [] small = tt
  states_are (n ∷ ks) small = (place_state ps n kept (first_small n ks small), states_are ks (rest_small n ks small))

  all_above : (n : ℕ) (ks : List ℕ) → AreSmall ks → n < 2 ^ bits_of_scope ps → list_all (λ k. is_lt (nat_cmp n k)) ks ≡ true
      → list_all (λ state. is_lt (nat_cmp (state_place ps (byte_state_at ps n)) (state_place ps state))) (map (byte_state_at ps) ks) ≡ true
  all_above n [] small h above = refl
  all_above n (k ∷ ks) small h above =
      let p = and_parts (is_lt (nat_cmp n k)) (list_all (λ k. is_lt (nat_cmp n k)) ks) above in
      let one : state_place ps (byte_state_at ps n) ≡ n = place_back ps n kept h in
      let two : state_place ps (byte_state_at ps k) ≡ k = place_back ps k kept (first_small k ks small) in
      and_from (is_lt (nat_cmp (state_place ps (byte_state_at ps n)) (state_place ps (byte_state_at ps k)))) (list_all (λ state. is_lt (nat_cmp (state_place ps (byte_state_at ps n)) (state_place ps state))) (map (byte_state_at ps) ks))
      ((λ i. is_lt (nat_cmp (one i) (two i))) ∙ p.0) (all_above n ks (rest_small k ks small) h p.1)

  pub states_strict : (ks : List ℕ) → AreSmall ks → strict nat_cmp ks ≡ true → strict (on (state_place ps) nat_cmp) (map (byte_state_at ps) ks) ≡ true
  states_strict [] small h = refl
  states_strict (n ∷ ks) small h =
      let p = and_parts (list_all (λ k. is_lt (nat_cmp n k)) ks) (strict nat_cmp ks) h in
      and_from (list_all (λ state. is_lt (nat_cmp (state_place ps (byte_state_at ps n)) (state_place ps state))) (map (byte_state_at ps) ks)) (strict (on (state_place ps) nat_cmp) (map (byte_state_at ps) ks))
      (all_above n ks (rest_small n ks small) (first_small n ks small) p.0) (states_strict ks (rest_small n ks small) p.1)
