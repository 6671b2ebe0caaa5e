use Rattle.std.proofs.Common.{◌≡◌, ◌≢◌, ◌⊎◌, ◌||◌, ◌+◌, ◌-◌, ◌<◌, ◌≤◌, ◌^◌, ◌%◌, ◌==◌, ℕ, zero, suc, Bool, true, false, cond, refl, sym, ap, ◌∙◌, subst, inl, inr, ⊎_elim, arith}
use Rattle.std.specs.Prelude.{◌↔◌, bit_xor}
use Rattle.std.specs.Int.{bit_at}
use Rattle.std.proofs.lemmas.Bool.{or_cases, or_left, or_right, cases_eq}
use Rattle.std.proofs.lemmas.Nat.{xor_lt}
use Rattle.std.proofs.lemmas.Nat.Bits.{bit_at-lt, bit_at_xor, same_from_bits_below}
use Rattle.occ_node.specs.occ_dd.Assignment.{turned, with_bit}
use Rattle.occ_node.proofs.from_dd.Bits.{bit_cases, is_one, is_zero, bit_at-turned_same, bit_at-turned_other, bit_at-with_bit_same, bit_at-with_bit_other, turned_lt, with_bit_lt, with_bit_same}
use Rattle.occ_node.specs.occ_dd.Store.{IsKnown, IsSet, has}
use Rattle.occ_node.specs.occ_dd.declared.set.SetId.{SetId}
use Rattle.occ_node.specs.occ_dd.declared.store.Store.{Store}
use Rattle.occ_scope.specs.Bits.{turned_below, passes_freed}

-- ---- one bit more
turned_zero : (change x : ℕ) → turned_below 0 change x ≡ x
unfolding turned_below
turned_zero change x = refl

turned_suc : (n change x : ℕ) → turned_below (suc n) change x ≡ turned_below n change (cond (bit_at change n == 1) (turned x n) x)
unfolding turned_below
turned_suc n change x = refl

passes_zero : (bits : ℕ) (test : ℕ → Bool) (x : ℕ) → passes_freed 0 bits test x ≡ test x
unfolding passes_freed
passes_zero bits test x = refl

passes_suc : (n bits : ℕ) (test : ℕ → Bool) (x : ℕ) → passes_freed (suc n) bits test x ≡ cond (bit_at bits n == 1) (passes_freed n bits test (with_bit x n 0) || passes_freed n bits test (with_bit x n 1)) (passes_freed n bits test x)
unfolding passes_freed
passes_suc n bits test x = refl

turned_on : (n change x : ℕ) → bit_at change n ≡ 1 → turned_below (n + 1) change x ≡ turned_below n change (turned x n)
turned_on n change x one = let e : n + 1 ≡ suc n = omega arith in ap (λ m. turned_below m change x) e ∙ turned_suc n change x ∙ ap (λ c. turned_below n change (cond c (turned x n) x)) (is_one change n one)

turned_off : (n change x : ℕ) → bit_at change n ≢ 1 → turned_below (n + 1) change x ≡ turned_below n change x
turned_off n change x off =
    let e : n + 1 ≡ suc n = omega arith in
    let z : bit_at change n ≡ 0 = ⊎_elim (λ (z : bit_at change n ≡ 0). z) (λ (o : bit_at change n ≡ 1). absurd (off o)) (bit_cases change n) in
    ap (λ m. turned_below m change x) e ∙ turned_suc n change x ∙ ap (λ c. turned_below n change (cond c (turned x n) x)) (is_zero change n z)

passes_on : (n bits : ℕ) (test : ℕ → Bool) (x : ℕ) → bit_at bits n ≡ 1 → passes_freed (n + 1) bits test x ≡ (passes_freed n bits test (with_bit x n 0) || passes_freed n bits test (with_bit x n 1))
passes_on n bits test x one =
    let e : n + 1 ≡ suc n = omega arith in
    ap (λ m. passes_freed m bits test x) e ∙ passes_suc n bits test x
    ∙ ap (λ c. cond c (passes_freed n bits test (with_bit x n 0) || passes_freed n bits test (with_bit x n 1)) (passes_freed n bits test x)) (is_one bits n one)

passes_off : (n bits : ℕ) (test : ℕ → Bool) (x : ℕ) → bit_at bits n ≢ 1 → passes_freed (n + 1) bits test x ≡ passes_freed n bits test x
passes_off n bits test x off =
    let e : n + 1 ≡ suc n = omega arith in
    let z : bit_at bits n ≡ 0 = ⊎_elim (λ (z : bit_at bits n ≡ 0). z) (λ (o : bit_at bits n ≡ 1). absurd (off o)) (bit_cases bits n) in
    ap (λ m. passes_freed m bits test x) e ∙ passes_suc n bits test x
    ∙ ap (λ c. cond c (passes_freed n bits test (with_bit x n 0) || passes_freed n bits test (with_bit x n 1)) (passes_freed n bits test x)) (is_zero bits n z)

-- ---- the loops
pub freed_start : (s : Store) (a : SetId) (bits : ℕ) → IsKnown s a → IsSet s a (passes_freed 0 bits (has s a))
freed_start s a bits known = record { known = known; members = λ x. sym (passes_zero bits (has s a) x) }

pub freed_turn : (s t u : Store) (a r q : SetId) (bits n : ℕ) → bit_at bits n ≡ 1 → IsSet t r (passes_freed n bits (has s a)) → IsSet u q (λ x. has t r (with_bit x n 0) || has t r (with_bit x n 1)) → IsSet u q (passes_freed (n + 1) bits (has s a))
freed_turn s t u a r q bits n one is set = record {
  known = set.known;
  members = λ x. set.members x ∙ (λ i. is.members (with_bit x n 0) i || is.members (with_bit x n 1) i) ∙ sym (passes_on n bits (has s a) x one);
}

pub freed_skip : (s t : Store) (a r : SetId) (bits n : ℕ) → bit_at bits n ≢ 1 → IsSet t r (passes_freed n bits (has s a)) → IsSet t r (passes_freed (n + 1) bits (has s a))
freed_skip s t a r bits n off is = record { known = is.known; members = λ x. is.members x ∙ sym (passes_off n bits (has s a) x off) }

pub turned_start : (s : Store) (a : SetId) (change : ℕ) → IsKnown s a → IsSet s a (λ x. has s a (turned_below 0 change x))
turned_start s a change known = record { known = known; members = λ x. ap (has s a) (sym (turned_zero change x)) }

pub turned_turn : (s t u : Store) (a r q : SetId) (change n : ℕ) → bit_at change n ≡ 1 → IsSet t r (λ x. has s a (turned_below n change x)) → IsSet u q (λ x. has t r (turned x n)) → IsSet u q (λ x. has s a (turned_below (n + 1) change x))
turned_turn s t u a r q change n one is set = record { known = set.known; members = λ x. set.members x ∙ is.members (turned x n) ∙ ap (has s a) (sym (turned_on n change x one)) }

pub turned_skip : (s t : Store) (a r : SetId) (change n : ℕ) → bit_at change n ≢ 1 → IsSet t r (λ x. has s a (turned_below n change x)) → IsSet t r (λ x. has s a (turned_below (n + 1) change x))
turned_skip s t a r change n off is = record { known = is.known; members = λ x. is.members x ∙ ap (has s a) (sym (turned_off n change x off)) }

-- ---- bits that are free
pub passes_never : (n bits x : ℕ) → passes_freed n bits (λ y. false) x ≡ false
unfolding passes_freed
passes_never zero bits x = refl
passes_never (suc n) bits x = by (bit_at bits n == 1) (passes_never n bits (with_bit x n 0)) (passes_never n bits (with_bit x n 1)) (passes_never n bits x)
  where
    by : (c : Bool) {p q r : Bool} → p ≡ false → q ≡ false → r ≡ false → cond c (p || q) r ≡ false
    by true h k l = λ i. h i || k i
    by false h k l = l

passes_more : (n bits : ℕ) (test : ℕ → Bool) (x : ℕ) → passes_freed n bits test x ≡ true → passes_freed (suc n) bits test x ≡ true
unfolding passes_freed
passes_more n bits test x h = by (bit_at bits n == 1)
  where
    one_of : (passes_freed n bits test (with_bit x n 0) || passes_freed n bits test (with_bit x n 1)) ≡ true
    one_of = ⊎_elim
        (λ (z : bit_at x n ≡ 0). or_left (passes_freed n bits test (with_bit x n 0)) (passes_freed n bits test (with_bit x n 1)) (ap (passes_freed n bits test) (with_bit_same x n 0 z) ∙ h))
        (λ (o : bit_at x n ≡ 1). or_right (passes_freed n bits test (with_bit x n 0)) (passes_freed n bits test (with_bit x n 1)) (ap (passes_freed n bits test) (with_bit_same x n 1 o) ∙ h))
        (bit_cases x n)

    by : (c : Bool) → cond c (passes_freed n bits test (with_bit x n 0) || passes_freed n bits test (with_bit x n 1)) (passes_freed n bits test x) ≡ true
    by true = one_of
    by false = h

pub passes_self : (n bits : ℕ) (test : ℕ → Bool) (x : ℕ) → test x ≡ true → passes_freed n bits test x ≡ true
passes_self zero bits test x h = passes_zero bits test x ∙ h
passes_self (suc n) bits test x h = passes_more n bits test x (passes_self n bits test x h)

-- x differs from one that passes only in those of the bits that are below n
pub record FreedAt (test : ℕ → Bool) (bits n x : ℕ) : Type 0 where
  pub y : ℕ
  pub below : y < 2 ^ 64
  pub passed : test y ≡ true
  pub same : (k : ℕ) → k < 64 → (n ≤ k) ⊎ (bit_at bits k ≡ 0) → bit_at y k ≡ bit_at x k

module _ (test : ℕ → Bool) (bits : ℕ) where
  at_start : (x : ℕ) → x < 2 ^ 64 → (test x ≡ true) ↔ FreedAt test bits 0 x
  at_start x b = (
    λ h. record { y = x; below = b; passed = h; same = λ k l o. refl },
    λ f. let same : f.y ≡ x = same_from_bits_below 64 f.y x f.below b (λ k l. f.same k l (inl (omega arith))) in ap test (sym same) ∙ f.passed,
  )

  -- the bit stays as it is
  pass : (n x : ℕ) → bit_at bits n ≡ 0 → FreedAt test bits n x ↔ FreedAt test bits (suc n) x
  pass n x off = (
    λ f. record { y = f.y; below = f.below; passed = f.passed; same = λ k l. ⊎_elim (λ (h : suc n ≤ k). f.same k l (inl (omega arith))) (λ (h : bit_at bits k ≡ 0). f.same k l (inr h)) },
    λ f. record {
      y = f.y;
      below = f.below;
      passed = f.passed;
      same = λ k l. ⊎_elim
          (λ (h : n ≤ k). ⊎_elim
          (λ (e : k ≡ n). f.same k l (inr (ap (bit_at bits) e ∙ off)))
          (λ (ne : k ≡ n → ⊥). f.same k l (inl (omega arith)))
          (cases_eq k n))
          (λ (h : bit_at bits k ≡ 0). f.same k l (inr h));
    },
  )

  -- an index that isn't n, where bit n is one of the bits
  other : (n k : ℕ) → bit_at bits n ≡ 1 → (suc n ≤ k) ⊎ (bit_at bits k ≡ 0) → k ≢ n
  other n k one = ⊎_elim (λ (h : suc n ≤ k). λ (e : k ≡ n). omega arith) (λ (h : bit_at bits k ≡ 0). λ (e : k ≡ n). let z : bit_at bits n ≡ 0 = sym (ap (bit_at bits) e) ∙ h in omega arith)

  weaker : (n k : ℕ) (P : Type 0) → (suc n ≤ k) ⊎ P → (n ≤ k) ⊎ P
  weaker n k P = ⊎_elim (λ (h : suc n ≤ k). inl (omega arith)) (λ (h : P). inr h)

  turn_on : (n x v : ℕ) → bit_at bits n ≡ 1 → FreedAt test bits n (with_bit x n v) → FreedAt test bits (suc n) x
  turn_on n x v one f = record { y = f.y; below = f.below; passed = f.passed; same = λ k l o. f.same k l (weaker n k (bit_at bits k ≡ 0) o) ∙ bit_at-with_bit_other x n v k (other n k one o) }

  turn_back : (n x : ℕ) → bit_at bits n ≡ 1 → (f : FreedAt test bits (suc n) x) → FreedAt test bits n (with_bit x n (bit_at f.y n))
  turn_back n x one f = record {
    y = f.y;
    below = f.below;
    passed = f.passed;
    same = λ k l o. ⊎_elim
        (λ (e : k ≡ n). ap (bit_at f.y) e ∙ sym (bit_at-with_bit_same x n (bit_at f.y n) (bit_at-lt f.y n)) ∙ ap (bit_at (with_bit x n (bit_at f.y n))) (sym e))
        (λ (ne : k ≡ n → ⊥). f.same k l (⊎_elim (λ (h : n ≤ k). inl (omega arith)) (λ (h : bit_at bits k ≡ 0). inr h) o) ∙ sym (bit_at-with_bit_other x n (bit_at f.y n) k ne))
        (cases_eq k n);
  }

  pub passes_iff : (n x : ℕ) → n ≤ 64 → x < 2 ^ 64 → (passes_freed n bits test x ≡ true) ↔ FreedAt test bits n x
  unfolding passes_freed
  passes_iff zero x l b = at_start x b
  passes_iff (suc n) x l b = ⊎_elim
      (λ (z : bit_at bits n ≡ 0). let c = ap (λ c. cond c (passes_freed n bits test (with_bit x n 0) || passes_freed n bits test (with_bit x n 1)) (passes_freed n bits test x)) (is_zero bits n z) in
      let rest = passes_iff n x (omega arith) b in
      (λ h. (pass n x z).0 (rest.0 (sym c ∙ h)), λ f. c ∙ rest.1 ((pass n x z).1 f)))
      (λ (o : bit_at bits n ≡ 1). let c = ap (λ c. cond c (passes_freed n bits test (with_bit x n 0) || passes_freed n bits test (with_bit x n 1)) (passes_freed n bits test x)) (is_one bits n o) in
      let low = passes_iff n (with_bit x n 0) (omega arith) (with_bit_lt x n 0 64 (omega arith) b) in
      let high = passes_iff n (with_bit x n 1) (omega arith) (with_bit_lt x n 1 64 (omega arith) b) in (
        λ h. ⊎_elim
            (λ (k : passes_freed n bits test (with_bit x n 0) ≡ true). turn_on n x 0 o (low.0 k))
            (λ (k : passes_freed n bits test (with_bit x n 1) ≡ true). turn_on n x 1 o (high.0 k))
            (or_cases (passes_freed n bits test (with_bit x n 0)) (passes_freed n bits test (with_bit x n 1)) (sym c ∙ h)),
        λ f. c ∙ ⊎_elim
            (λ (z : bit_at f.y n ≡ 0). or_left (passes_freed n bits test (with_bit x n 0)) (passes_freed n bits test (with_bit x n 1)) (low.1 (subst (λ v. FreedAt test bits n (with_bit x n v)) z (turn_back n x o f))))
            (λ (p : bit_at f.y n ≡ 1). or_right (passes_freed n bits test (with_bit x n 0)) (passes_freed n bits test (with_bit x n 1)) (high.1 (subst (λ v. FreedAt test bits n (with_bit x n v)) p (turn_back n x o f))))
            (bit_cases f.y n),
      ))
      (bit_cases bits n)

-- ---- bits that are turned
cond_lt : (c : Bool) (a b n : ℕ) → a < n → b < n → cond c a b < n
cond_lt true a b n h k = h
cond_lt false a b n h k = k

pub turned_below_lt : (n change x : ℕ) → n ≤ 64 → x < 2 ^ 64 → turned_below n change x < 2 ^ 64
unfolding turned_below
turned_below_lt zero change x l b = b
turned_below_lt (suc n) change x l b = turned_below_lt n change (cond (bit_at change n == 1) (turned x n) x) (omega arith) (cond_lt (bit_at change n == 1) (turned x n) x (2 ^ 64) (turned_lt x n 64 (omega arith) b) b)

other_bit : (change n x k : ℕ) → k ≢ n → bit_at (cond (bit_at change n == 1) (turned x n) x) k ≡ bit_at x k
other_bit change n x k ne = by (bit_at change n == 1)
  where
    by : (c : Bool) → bit_at (cond c (turned x n) x) k ≡ bit_at x k
    by true = bit_at-turned_other x n k ne
    by false = refl

two : (a : ℕ) → a < 2 → (1 - a ≡ (a + 1) % 2) × (a ≡ (a + 0) % 2)
two zero h = (refl, refl)
two (suc zero) h = (refl, refl)
two (suc (suc a)) h = absurd (omega arith)

this_bit : (change n x : ℕ) → bit_at (cond (bit_at change n == 1) (turned x n) x) n ≡ (bit_at x n + bit_at change n) % 2
this_bit change n x = ⊎_elim
    (λ (z : bit_at change n ≡ 0). ap (λ c. bit_at (cond c (turned x n) x) n) (is_zero change n z) ∙ (two (bit_at x n) (bit_at-lt x n)).1 ∙ ap (λ v. (bit_at x n + v) % 2) (sym z))
    (λ (o : bit_at change n ≡ 1). ap (λ c. bit_at (cond c (turned x n) x) n) (is_one change n o) ∙ bit_at-turned_same x n ∙ (two (bit_at x n) (bit_at-lt x n)).0 ∙ ap (λ v. (bit_at x n + v) % 2) (sym o))
    (bit_cases change n)

turned_high : (n change x k : ℕ) → n ≤ k → bit_at (turned_below n change x) k ≡ bit_at x k
unfolding turned_below
turned_high zero change x k l = refl
turned_high (suc n) change x k l =
    let ne : k ≢ n = λ e. omega arith in
    turned_high n change (cond (bit_at change n == 1) (turned x n) x) k (omega arith) ∙ other_bit change n x k ne

turned_low : (n change x k : ℕ) → k < n → bit_at (turned_below n change x) k ≡ (bit_at x k + bit_at change k) % 2
unfolding turned_below
turned_low zero change x k l = absurd (omega arith)
turned_low (suc n) change x k l = ⊎_elim
    (λ (e : k ≡ n). turned_high n change (cond (bit_at change n == 1) (turned x n) x) k (omega arith) ∙ ap (bit_at (cond (bit_at change n == 1) (turned x n) x)) e ∙ this_bit change n x ∙ ap (λ m. (bit_at x m + bit_at change m) % 2) (sym e))
    (λ (ne : k ≡ n → ⊥). turned_low n change (cond (bit_at change n == 1) (turned x n) x) k (omega arith) ∙ ap (λ v. (v + bit_at change k) % 2) (other_bit change n x k ne))
    (cases_eq k n)

pub turned_is : (change x : ℕ) → change < 2 ^ 64 → x < 2 ^ 64 → turned_below 64 change x ≡ bit_xor x change
turned_is change x c b = same_from_bits_below 64 (turned_below 64 change x) (bit_xor x change) (turned_below_lt 64 change x (omega arith) b) (xor_lt 64 x change b c) (λ k l. turned_low 64 change x k l ∙ sym (bit_at_xor x change k))

twice : (a c : ℕ) → a < 2 → c < 2 → ((a + c) % 2 + c) % 2 ≡ a
twice zero zero h k = refl
twice zero (suc zero) h k = refl
twice (suc zero) zero h k = refl
twice (suc zero) (suc zero) h k = refl
twice (suc (suc a)) c h k = absurd (omega arith)
twice zero (suc (suc c)) h k = absurd (omega arith)
twice (suc zero) (suc (suc c)) h k = absurd (omega arith)

pub turned_twice : (change x : ℕ) → x < 2 ^ 64 → turned_below 64 change (turned_below 64 change x) ≡ x
turned_twice change x b =
    let small = turned_below_lt 64 change x (omega arith) b in
    same_from_bits_below 64 (turned_below 64 change (turned_below 64 change x)) x (turned_below_lt 64 change (turned_below 64 change x) (omega arith) small) b
    (λ k l. turned_low 64 change (turned_below 64 change x) k l ∙ ap (λ v. (v + bit_at change k) % 2) (turned_low 64 change x k l) ∙ twice (bit_at x k) (bit_at change k) (bit_at-lt x k) (bit_at-lt change k))
