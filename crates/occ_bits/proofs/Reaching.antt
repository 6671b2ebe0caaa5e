-- What digits make of an assignment, bit by bit.
use Rattle.std.proofs.Common.{◌≡◌, ◌<◌, ◌≤◌, ◌+◌, ◌==◌, ◌++◌, ◌⊎◌, ℕ, zero, suc, true, false, Bool, cond, List, [], ◌∷◌, length, get_or, take, set, inl, inr, ⊎_elim, refl, sym, ap, ◌∙◌, subst, arith}
use Rattle.std.proofs.Math.Seq.{take-suc}
use Rattle.std.proofs.lemmas.Bool.{cases_lt}
use Rattle.std.proofs.lemmas.List.{get_or_append_left, get_or_push, length-take-le, length_push}
use Rattle.std.proofs.lemmas.List.Elements.{All-take}
use Rattle.std.proofs.lemmas.Nat.Bits.{same_from_bits}
use Rattle.std.specs.Int.{bit_at}
use Rattle.std.specs.List.{All}
use Rattle.occ_bits.specs.Words.{digit}
use Rattle.occ_bits.proofs.Numbers.{digit-keeps, digit_small}
use Rattle.occ_dd.specs.Assignment.{with_bit}
use Rattle.occ_dd.proofs.Bits.{bit_at-with_bit_other, bit_at-with_bit_same, bit_cases, is_one, is_zero}
use Rattle.occ_dd.specs.Store.{IsKnown, IsSet, Keeps, has}
use Rattle.occ_dd.specs.declared.set.SetId.{SetId}
use Rattle.occ_dd.specs.declared.store.Store.{Store}
use Rattle.occ_dd.proofs.Callers.{all_known-keeps, known-keeps, set-keeps}
use Rattle.occ_bits.specs.Digits.{AreDigits, IsEither, IsIdentity, put_from, reached, reached_by}

abbrev pub none : SetId
none = record { 0 = 0 }

get_same : (ds : List SetId) (j : ℕ) (d : SetId) → j < length ds → get_or ds j none ≡ get_or ds j d
get_same [] j d l = absurd (omega (arith, l))
get_same (a ∷ ds) zero d l = refl
get_same (a ∷ ds) (suc j) d l = get_same ds j d (omega (arith, l))

-- ---- bits that are put
pub put_outside : (s : Store) (sets : List SetId) (f x y k : ℕ) → (k < f) ⊎ (f + length sets ≤ k) → bit_at (put_from s f sets x y) k ≡ bit_at y k
put_outside s [] f x y k out = refl
put_outside s (a ∷ sets) f x y k out =
    put_outside s sets (f + 1) x (with_bit y f (digit s a x)) k (⊎_elim (λ (h : k < f). inl (omega arith)) (λ (h : f + suc (length sets) ≤ k). inr (omega arith)) out)
    ∙ bit_at-with_bit_other y f (digit s a x) k (⊎_elim (λ (h : k < f). λ (e : k ≡ f). omega arith) (λ (h : f + suc (length sets) ≤ k). λ (e : k ≡ f). omega arith) out)

pub put_inside : (s : Store) (sets : List SetId) (f x y i : ℕ) (d : SetId) → i < length sets → bit_at (put_from s f sets x y) (f + i) ≡ digit s (get_or sets i d) x
put_inside s [] f x y i d h = absurd (omega (arith, h))
put_inside s (a ∷ sets) f x y zero d h =
    let here : f + 0 ≡ f = omega arith in
    ap (λ k. bit_at (put_from s (f + 1) sets x (with_bit y f (digit s a x))) k) here
    ∙ put_outside s sets (f + 1) x (with_bit y f (digit s a x)) f (inl (omega arith)) ∙ bit_at-with_bit_same y f (digit s a x) (digit_small s a x)
put_inside s (a ∷ sets) f x y (suc i) d h =
    let next : f + suc i ≡ f + 1 + i = omega arith in
    ap (λ k. bit_at (put_from s (f + 1) sets x (with_bit y f (digit s a x))) k) next
    ∙ put_inside s sets (f + 1) x (with_bit y f (digit s a x)) i d (omega (arith, h))

put_push : (s : Store) (f : ℕ) (sets : List SetId) (set : SetId) (x y : ℕ) → put_from s f (sets ++ set ∷ []) x y ≡ with_bit (put_from s f sets x y) (f + length sets) (digit s set x)
put_push s f [] set x y = ap (λ n. with_bit y n (digit s set x)) (let e : f ≡ f + 0 = omega arith in e)
put_push s f (a ∷ sets) set x y = put_push s (f + 1) sets set x (with_bit y f (digit s a x))
    ∙ ap (λ n. with_bit (put_from s (f + 1) sets x (with_bit y f (digit s a x))) n (digit s set x)) (let e : f + 1 + length sets ≡ f + suc (length sets) = omega arith in e)

-- ---- the bits of what digits make
pub reached_bit : (s : Store) (digits : List SetId) (x k : ℕ) → k < length digits → bit_at (reached s digits x) k ≡ digit s (get_or digits k none) x
reached_bit s digits x k h = ap (bit_at (reached s digits x)) (let e : k ≡ 0 + k = omega arith in e) ∙ put_inside s digits 0 x x k none h

pub reached_high : (s : Store) (digits : List SetId) (x k : ℕ) → length digits ≤ k → bit_at (reached s digits x) k ≡ bit_at x k
reached_high s digits x k h = put_outside s digits 0 x x k (inr (omega (arith, h)))

-- the assignment that has these bits
pub reached_is : (s : Store) (digits : List SetId) (x y : ℕ) → length digits ≡ 64 → ((k : ℕ) → k < 64 → digit s (get_or digits k none) x ≡ bit_at y k) → ((k : ℕ) → 64 ≤ k → bit_at x k ≡ bit_at y k) → reached s digits x ≡ y
reached_is s digits x y size low high = same_from_bits (reached s digits x) y
    (λ k. ⊎_elim (λ (l : k < 64). reached_bit s digits x k (omega (arith, size, l)) ∙ low k l) (λ (l : 64 ≤ k). reached_high s digits x k (omega (arith, size, l)) ∙ high k l) (cases_lt k 64))

-- digits that are the same at x make the same of it
pub reached_same : (s t : Store) (digits others : List SetId) (x : ℕ) → length digits ≡ 64 → length others ≡ 64 → ((k : ℕ) → k < 64 → digit s (get_or digits k none) x ≡ digit t (get_or others k none) x)
    → reached s digits x ≡ reached t others x
reached_same s t digits others x size other_size same = reached_is s digits x (reached t others x) size
    (λ k l. same k l ∙ sym (reached_bit t others x k (omega (arith, other_size, l)))) (λ k l. sym (reached_high t others x k (omega (arith, other_size, l))))

-- one digit more
pub reached_more : (s : Store) (digits : List SetId) (place : ℕ) (d : SetId) (x : ℕ) → place < length digits
    → reached_by s digits (suc place) x ≡ with_bit (reached_by s digits place x) place (digit s (get_or digits place d) x)
reached_more s digits place d x h =
    let size : length (take place digits) ≡ place = length-take-le place digits (omega (arith, h)) in
    ap (λ ds. put_from s 0 ds x x) (take-suc digits place d h)
    ∙ put_push s 0 (take place digits) (get_or digits place d) x x
    ∙ ap (λ n. with_bit (reached_by s digits place x) n (digit s (get_or digits place d) x)) (let e : 0 + length (take place digits) ≡ place = omega (arith, size) in e)

-- ---- sets stay as they are
pub digits-keep : (s t : Store) → Keeps s t → (digits : List SetId) → AreDigits s digits → AreDigits t digits
digits-keep s t k digits are = record { count = are.count; known = all_known-keeps s t k digits are.known }

pub put-keeps : (s t : Store) → Keeps s t → (digits : List SetId) → All (IsKnown s) digits → (f x y : ℕ) → put_from t f digits x y ≡ put_from s f digits x y
put-keeps s t k [] known f x y = refl
put-keeps s t k (a ∷ digits) known f x y =
    ap (λ d. put_from t (f + 1) digits x (with_bit y f d)) (digit-keeps s t k a x (known 0 a (omega arith)))
    ∙ put-keeps s t k digits (λ i d h. known (suc i) d (omega (arith, h))) (f + 1) x (with_bit y f (digit s a x))

pub reached_by-keeps : (s t : Store) → Keeps s t → (digits : List SetId) → AreDigits s digits → (n x : ℕ) → reached_by t digits n x ≡ reached_by s digits n x
reached_by-keeps s t k digits are n x = put-keeps s t k (take n digits) (All-take (IsKnown s) n digits are.known) 0 x x

-- ---- digits that are the bits themselves
-- the first digits are those of the bits
pub record AreBits (s : Store) (digits : List SetId) : Type 0 where
  pub each : (k : ℕ) → k < length digits → IsSet s (get_or digits k none) (λ x. bit_at x k == 1)

pub no_bits : (s : Store) (digits : List SetId) → digits ≡ [] → AreBits s digits
no_bits s digits e = record { each = λ k h. absurd (let n : length digits ≡ 0 = ap length e in omega (arith, h, n)) }

pub more_bits : (s t : Store) → Keeps s t → (digits new : List SetId) (set : SetId) (bit : ℕ) → length digits ≡ bit → IsSet t set (λ x. bit_at x bit == 1) → new ≡ digits ++ set ∷ [] → AreBits s digits → AreBits t new
more_bits s t k digits new set bit size is e bits = subst (AreBits t) (sym e) (record { each = at })
  where
    at : (i : ℕ) → i < length (digits ++ set ∷ []) → IsSet t (get_or (digits ++ set ∷ []) i none) (λ x. bit_at x i == 1)
    at i h = ⊎_elim
        (λ (l : i < length digits). subst (λ a. IsSet t a (λ x. bit_at x i == 1)) (sym (get_or_append_left digits (set ∷ []) none i l)) (set-keeps s t k (get_or digits i none) (λ x. bit_at x i == 1) (bits.each i l)))
        (λ (l : length digits ≤ i). let here : i ≡ bit = omega (arith, h, l, size, length_push digits set) in
        subst (λ a. IsSet t a (λ x. bit_at x i == 1)) (sym (get_or_push digits set none i (omega (arith, here, size)))) (subst (λ j. IsSet t set (λ x. bit_at x j == 1)) (sym here) is))
        (cases_lt i (length digits))

pub digit_of_bit : (s : Store) (set : SetId) (x k : ℕ) → has s set x ≡ (bit_at x k == 1) → digit s set x ≡ bit_at x k
digit_of_bit s set x k e = ap (λ b. cond b 1 0) e ∙ ⊎_elim
    (λ (z : bit_at x k ≡ 0). ap (λ b. cond b 1 0) (is_zero x k z) ∙ sym z) (λ (o : bit_at x k ≡ 1). ap (λ b. cond b 1 0) (is_one x k o) ∙ sym o) (bit_cases x k)

pub identity_from : (s : Store) (digits : List SetId) → length digits ≡ 64 → AreBits s digits → IsIdentity s digits
identity_from s digits size bits = record {
  are = record { count = size; known = λ i d h. subst (IsKnown s) (get_same digits i d h) (bits.each i h).known };
  stays = λ x. reached_is s digits x x size (λ k l. digit_of_bit s (get_or digits k none) x k ((bits.each k (omega (arith, l, size))).members x)) (λ k l. refl);
}

-- ---- digits of the one list or of the other
pub record AreEither (s : Store) (set : SetId) (ys ns digits : List SetId) : Type 0 where
  pub each : (k : ℕ) → k < length digits → IsSet s (get_or digits k none) (λ x. cond (has s set x) (has s (get_or ys k none) x) (has s (get_or ns k none) x))

pub no_either : (s : Store) (set : SetId) (ys ns digits : List SetId) → digits ≡ [] → AreEither s set ys ns digits
no_either s set ys ns digits e = record { each = λ k h. absurd (let n : length digits ≡ 0 = ap length e in omega (arith, h, n)) }

pub more_either : (s t : Store) → Keeps s t → (set : SetId) (ys ns digits new : List SetId) (digit : SetId) (place : ℕ) → IsKnown s set → AreDigits s ys → AreDigits s ns → place < 64 → length digits ≡ place
    → IsSet t digit (λ x. cond (has s set x) (has s (get_or ys place none) x) (has s (get_or ns place none) x)) → new ≡ digits ++ digit ∷ [] → AreEither s set ys ns digits → AreEither t set ys ns new
more_either s t k set ys ns digits new digit place known are others few size is e before = subst (AreEither t set ys ns) (sym e) (record { each = at })
  where
    test : Store → ℕ → ℕ → Bool
    test u i x = cond (has u set x) (has u (get_or ys i none) x) (has u (get_or ns i none) x)

    later : (i x : ℕ) → i < 64 → test s i x ≡ test t i x
    later i x l j = cond (sym (k.same set x known) j) (sym (k.same (get_or ys i none) x (are.known i none (omega (arith, l, are.count)))) j) (sym (k.same (get_or ns i none) x (others.known i none (omega (arith, l, others.count)))) j)

    at : (i : ℕ) → i < length (digits ++ digit ∷ []) → IsSet t (get_or (digits ++ digit ∷ []) i none) (test t i)
    at i h = ⊎_elim
        (λ (l : i < length digits). let was = before.each i l in record {
          known = subst (IsKnown t) (sym (get_or_append_left digits (digit ∷ []) none i l)) (known-keeps s t k (get_or digits i none) was.known);
          members = λ x. ap (λ a. has t a x) (get_or_append_left digits (digit ∷ []) none i l) ∙ k.same (get_or digits i none) x was.known ∙ was.members x ∙ later i x (omega (arith, l, size, few));
        })
        (λ (l : length digits ≤ i). let here : i ≡ place = omega (arith, h, l, size, length_push digits digit) in
        let there = get_or_push digits digit none i (omega (arith, here, size)) in record {
          known = subst (IsKnown t) (sym there) is.known;
          members = λ x. ap (λ a. has t a x) there ∙ is.members x ∙ ap (λ j. test s j x) (sym here) ∙ later i x (omega (arith, here, few));
        })
        (cases_lt i (length digits))

pub either_from : (s : Store) (set : SetId) (ys ns digits : List SetId) → AreDigits s ys → AreDigits s ns → length digits ≡ 64 → AreEither s set ys ns digits → IsEither s set ys ns digits
either_from s set ys ns digits are others size each = record {
  are = record { count = size; known = λ i d h. subst (IsKnown s) (get_same digits i d h) (each.each i h).known };
  leads = λ x. at x (has s set x) refl;
}
  where
    one : (x k : ℕ) → k < 64 → (b : Bool) → has s set x ≡ b → digit s (get_or digits k none) x ≡ cond (cond b (has s (get_or ys k none) x) (has s (get_or ns k none) x)) 1 0
    one x k l b e = ap (λ c. cond c 1 0) ((each.each k (omega (arith, l, size))).members x ∙ ap (λ c. cond c (has s (get_or ys k none) x) (has s (get_or ns k none) x)) e)

    at : (x : ℕ) (b : Bool) → has s set x ≡ b → reached s digits x ≡ cond (has s set x) (reached s ys x) (reached s ns x)
    at x true e = reached_same s s digits ys x size are.count (λ k l. one x k l true e) ∙ sym (ap (λ c. cond c (reached s ys x) (reached s ns x)) e)
    at x false e = reached_same s s digits ns x size others.count (λ k l. one x k l false e) ∙ sym (ap (λ c. cond c (reached s ys x) (reached s ns x)) e)
