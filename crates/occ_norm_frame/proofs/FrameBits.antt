-- Bits in a row, and the assignments that differ from another in some bits.
use Rattle.std.proofs.Common.{◌≡◌, ◌<◌, ◌≤◌, ◌+◌, ◌*◌, ◌%◌, ◌^◌, ◌==◌, ◌&&◌, ◌||◌, ◌⊎◌, ℕ, List, [], ◌∷◌, not, Bool, true, false, cond, inl, inr, ⊎_elim, refl, sym, ap, ◌∙◌, subst, arith, w64, nat_lt}
use Rattle.std.specs.Prelude.{nat_le, if◌then◌else◌}
use Rattle.std.specs.Int.{bit_at}
use Rattle.std.specs.Int.Bits.{bit_or}
use Rattle.std.proofs.lemmas.Bool.{and_from, and_left, and_right, cases_Bool, cases_eq, cases_lt, eq-eqb, eqb-true, eqb-false, ne_eqb, lt-ltb, le-ltb, le-leb, lt-leb}
use Rattle.std.proofs.lemmas.Nat.{one_shl, or_lt, pow_below}
use Rattle.std.proofs.lemmas.Nat.Bits.{bit_at-lt, bit_at_set_same, bit_at_set_other, same_from_bits_below}
use Rattle.std.specs.List.{list_all, list_any}
use Rattle.occ_syntax.specs.occ_base.declared.names.Name.{Name}
use Rattle.occ_bits.specs.occ_dd.Assignment.{with_bit}
use Rattle.occ_bits.proofs.from_dd.Bits.{bit_at-with_bit_other, bit_at-with_bit_same, bit_cases, with_bit_lt}
use Rattle.occ_norm_frame.specs.Changes.{AgreeOutside}

-- ---- numbers of few bits
pub pow_more : (m n x : ℕ) → m ≤ n → x < 2 ^ m → x < 2 ^ n
pow_more m n x h k = ⊎_elim
    (λ (l : m < n). omega (arith, pow_below m n l, k))
    (λ (l : n ≤ m). let e : m ≡ n = omega arith in subst (λ j. x < 2 ^ j) e k)
    (cases_lt m n)

pub set_below : (bits bit n : ℕ) → bit < n → n ≤ 64 → bits < 2 ^ n → bit_or bits (1 * 2 ^ bit % 2 ^ 64) < 2 ^ n
set_below bits bit n h l k = or_lt n bits (1 * 2 ^ bit % 2 ^ 64) k (subst (λ m. m < 2 ^ n) (sym (one_shl bit 64 (omega arith))) (pow_below bit n h))

-- ---- bits in a row
pub all_more : (bits bit : ℕ) → bit < 64 → ((k : ℕ) → k < bit → bit_at bits k ≡ 1) → (k : ℕ) → k < bit + 1 → bit_at (bit_or bits (1 * 2 ^ bit % 2 ^ 64)) k ≡ 1
all_more bits bit h all k l = ⊎_elim
    (λ (b : k < bit). bit_at_set_other w64 bits bit h k (λ e. omega arith) ∙ all k b)
    (λ (b : bit ≤ k). let e : bit ≡ k = omega arith in subst (λ j. bit_at (bit_or bits (1 * 2 ^ bit % 2 ^ 64)) j ≡ 1) e (bit_at_set_same w64 bits bit h))
    (cases_lt k bit)

-- 1 for the places from `first` to below `end`
abbrev pub in_row : ℕ → ℕ → ℕ → ℕ
in_row first end k = if nat_le first k && nat_lt k end then 1 else 0

row_in : (first end k : ℕ) → first ≤ k → k < end → in_row first end k ≡ 1
row_in first end k h l = ap (λ (b : Bool). cond b 1 0) (and_from (nat_le first k) (nat_lt k end) (le-leb first k h) (lt-ltb k end l))

row_below : (first end k : ℕ) → k < first → in_row first end k ≡ 0
row_below first end k h = ap (λ (b : Bool). cond b 1 0) (and_left (nat_le first k) (nat_lt k end) (lt-leb first k h))

row_above : (first end k : ℕ) → end ≤ k → in_row first end k ≡ 0
row_above first end k h = ap (λ (b : Bool). cond b 1 0) (and_right (nat_le first k) (nat_lt k end) (le-ltb k end h))

pub row_more : (first digit bits k : ℕ) → first + digit < 64 → bit_at bits k ≡ in_row first (first + digit) k → bit_at (bit_or bits (1 * 2 ^ (first + digit) % 2 ^ 64)) k ≡ in_row first (first + (digit + 1)) k
row_more first digit bits k h is = ⊎_elim
    (λ (l : k < first + digit).
    bit_at_set_other w64 bits (first + digit) h k (λ e. omega arith) ∙ is
    ∙ ⊎_elim
    (λ (b : k < first). row_below first (first + digit) k b ∙ sym (row_below first (first + (digit + 1)) k b))
    (λ (b : first ≤ k). row_in first (first + digit) k b l ∙ sym (row_in first (first + (digit + 1)) k b (omega arith)))
    (cases_lt k first))
    (λ (l : first + digit ≤ k). ⊎_elim
    (λ (m : k < first + (digit + 1)).
    let e : first + digit ≡ k = omega arith in
    subst (λ j. bit_at (bit_or bits (1 * 2 ^ (first + digit) % 2 ^ 64)) j ≡ 1) e (bit_at_set_same w64 bits (first + digit) h) ∙ sym (row_in first (first + (digit + 1)) k (omega arith) m))
    (λ (m : first + (digit + 1) ≤ k).
    bit_at_set_other w64 bits (first + digit) h k (λ e. omega arith) ∙ is ∙ row_above first (first + digit) k l ∙ sym (row_above first (first + (digit + 1)) k m))
    (cases_lt k (first + (digit + 1))))
    (cases_lt k (first + digit))

-- ---- assignments that differ in some bits
pub agree_same : (x y first : ℕ) → x < 2 ^ 64 → y < 2 ^ 64 → AgreeOutside first first x y → x ≡ y
agree_same x y first h l agree = same_from_bits_below 64 x y h l (λ i b. agree i b (⊎_elim (λ (m : i < first). inl m) (λ (m : first ≤ i). inr m) (cases_lt i first)))

pub agree_with : (x bit v : ℕ) → AgreeOutside bit (bit + 1) x (with_bit x bit v)
agree_with x bit v k h out = sym (bit_at-with_bit_other x bit v k (λ e. ⊎_elim (λ (m : k < bit). omega arith) (λ (m : bit + 1 ≤ k). omega arith) out))

-- an assignment that differs in one bit at most is the other one with that bit made what it is there
pub only_bit : (x y bit : ℕ) → bit < 64 → x < 2 ^ 64 → y < 2 ^ 64 → AgreeOutside bit (bit + 1) x y → y ≡ with_bit x bit (bit_at y bit)
only_bit x y bit b h l agree = same_from_bits_below 64 y (with_bit x bit (bit_at y bit)) l (with_bit_lt x bit (bit_at y bit) 64 b h) each
  where
    each : (i : ℕ) → i < 64 → bit_at y i ≡ bit_at (with_bit x bit (bit_at y bit)) i
    each i m = ⊎_elim
        (λ (e : i ≡ bit). ap (bit_at y) e ∙ sym (bit_at-with_bit_same x bit (bit_at y bit) (bit_at-lt y bit)) ∙ ap (bit_at (with_bit x bit (bit_at y bit))) (sym e))
        (λ (ne : i ≡ bit → ⊥). sym (agree i m (apart i ne)) ∙ sym (bit_at-with_bit_other x bit (bit_at y bit) i ne))
        (cases_eq i bit)
      where
        apart : (i : ℕ) → (i ≡ bit → ⊥) → (i < bit) ⊎ (bit + 1 ≤ i)
        apart i ne = ⊎_elim (λ (k : i < bit). inl k) (λ (k : bit ≤ i). ⊎_elim (λ (j : i < bit + 1). absurd (ne (omega arith))) (λ (j : bit + 1 ≤ i). inr j) (cases_lt i (bit + 1))) (cases_lt i bit)

pub one_of_two : (x y bit : ℕ) → bit < 64 → x < 2 ^ 64 → y < 2 ^ 64 → AgreeOutside bit (bit + 1) x y → (y ≡ with_bit x bit 0) ⊎ (y ≡ with_bit x bit 1)
one_of_two x y bit b h l agree =
    let e = only_bit x y bit b h l agree in
    ⊎_elim (λ (z : bit_at y bit ≡ 0). inl (e ∙ ap (with_bit x bit) z)) (λ (z : bit_at y bit ≡ 1). inr (e ∙ ap (with_bit x bit) z)) (bit_cases y bit)

pub agree_wider : (first bit x y z : ℕ) → first ≤ bit → AgreeOutside bit (bit + 1) x y → AgreeOutside first bit y z → AgreeOutside first (bit + 1) x z
agree_wider first bit x y z h near far k l out =
    let both : ((k < bit) ⊎ (bit + 1 ≤ k)) → ((k < first) ⊎ (bit ≤ k)) → bit_at x k ≡ bit_at z k = λ n f. near k l n ∙ far k l f in
    ⊎_elim (λ (m : k < first). both (inl (omega arith)) (inl m)) (λ (m : bit + 1 ≤ k). both (inr m) (inr (omega arith))) out

-- the way there, through the assignment with that bit made what it is in the last
pub agree_far : (first bit x z : ℕ) → AgreeOutside first (bit + 1) x z → AgreeOutside first bit (with_bit x bit (bit_at z bit)) z
agree_far first bit x z agree k l out = ⊎_elim
    (λ (e : k ≡ bit). ap (bit_at (with_bit x bit (bit_at z bit))) e ∙ bit_at-with_bit_same x bit (bit_at z bit) (bit_at-lt z bit) ∙ ap (bit_at z) (sym e))
    (λ (ne : k ≡ bit → ⊥). bit_at-with_bit_other x bit (bit_at z bit) k ne ∙ agree k l (⊎_elim (λ (m : k < first). inl m) (λ (m : bit ≤ k). ⊎_elim (λ (j : k < bit + 1). absurd (ne (omega arith))) (λ (j : bit + 1 ≤ k). inr j) (cases_lt k (bit + 1))) out))
    (cases_eq k bit)

-- ---- names among some
turned_eq : (a b : ℕ) → (a == b) ≡ (b == a)
turned_eq a b = ⊎_elim
    (λ (t : (a == b) ≡ true). t ∙ sym (eq-eqb b a (sym (eqb-true a b t))))
    (λ (f : (a == b) ≡ false). f ∙ sym (ne_eqb b a (λ e. eqb-false a b f (sym e))))
    (cases_Bool (a == b))

-- a name is among some where not all are others
pub among_all : (names : List Name) (n : Name) → list_any (λ (k : Name). k.0 == n.0) names ≡ not (list_all (λ (k : Name). not (n.0 == k.0)) names)
among_all [] n = refl
among_all (k ∷ names) n = (λ i. turned_eq k.0 n.0 i || among_all names n i) ∙ not_both (n.0 == k.0) (list_all (λ (c : Name). not (n.0 == c.0)) names)
  where
    not_both : (a b : Bool) → (a || not b) ≡ not (not a && b)
    not_both true b = refl
    not_both false b = refl
