-- The loops of the circuits: how they begin, and what a step keeps.
use Rattle.std.proofs.Common.{◌≡◌, ℕ, ◌+◌, ◌*◌, ◌^◌, ◌<◌, Bool, false, if◌then◌else◌, List, [], ◌∷◌, ◌++◌, length, get_or, drop, refl, sym, ap, ◌∙◌, subst, arith, length-append, add-one}
use Rattle.std.specs.List.{All}
use Rattle.std.proofs.Math.Seq.{drop-cons}
use Rattle.std.proofs.lemmas.List.Elements.{All-nil, All-push}
use Rattle.occ_dd.specs.Store.{has, IsKnown, IsSet, Keeps}
use Rattle.occ_dd.specs.declared.set.SetId.{SetId}
use Rattle.occ_dd.specs.declared.store.Store.{Store}
use Rattle.occ_dd.proofs.Callers.{all_known-keeps, keeps_refl, keeps_trans}
use Rattle.occ_bits.specs.Words.{digit, number_at}
use Rattle.occ_bits.specs.Circuits.{IsAdded, IsTaken, IsSumSoFar, IsDifferenceSoFar, no_set}
use Rattle.occ_bits.proofs.Arithmetic.{double_more, sum_step, difference_step}
use Rattle.occ_bits.proofs.Numbers.{number-push, number-keeps, digit-keeps}

-- the next digit of what is left of a word
pub next_digit : (first s : Store) → Keeps first s → (sets : List SetId) (k x : ℕ) (d : SetId) → k < length sets → All (IsKnown first) sets → number_at first (drop k sets) x ≡ digit s (get_or sets k d) x + 2 * number_at first (drop (k + 1) sets) x
next_digit first s keeps sets k x d h known =
    ap (λ r. number_at first r x) (drop-cons sets k d h ∙ ap (λ j. get_or sets k d ∷ drop j sets) (sym (add-one k)))
    ∙ ap (λ n. n + 2 * number_at first (drop (k + 1) sets) x) (sym (digit-keeps first s keeps (get_or sets k d) x (known k d h)))

pushed : (s t : Store) → Keeps s t → (k : ℕ) (sets : List SetId) (e : SetId) (x : ℕ) → All (IsKnown s) sets → length sets ≡ k → number_at t (sets ++ e ∷ []) x ≡ number_at s sets x + 2 ^ k * digit t e x
pushed s t keeps k sets e x known size =
    number-push t sets e x ∙ ap (λ n. n + 2 ^ length sets * digit t e x) (number-keeps s t keeps sets x known) ∙ ap (λ m. number_at s sets x + 2 ^ m * digit t e x) size

longer : (sets : List SetId) (e : SetId) (k : ℕ) → length sets ≡ k → length (sets ++ e ∷ []) ≡ k + 1
longer sets e k size = length-append sets (e ∷ []) ∙ ap (λ n. n + 1) size

no_digit : (s : Store) (a : SetId) (x : ℕ) → has s a x ≡ false → digit s a x ≡ 0
no_digit s a x e = ap (λ (h : Bool). if h then 1 else 0) e

-- ---- sums
pub sum_start : (s : Store) (left right : List SetId) (carry : SetId) → IsSet s carry (λ x. false) → IsSumSoFar s s left right 0 [] carry
sum_start s left right carry is = record {
  keeps = keeps_refl s;
  digits = refl;
  known = All-nil (IsKnown s);
  carry_known = is.known;
  adds = λ x. let none : digit s carry x ≡ 0 = no_digit s carry x (is.members x) in omega (arith, none);
}

pub sum_more : (first s t : Store) (left right : List SetId) (k : ℕ) (sum : List SetId) (carry e next : SetId) → All (IsKnown first) left → All (IsKnown first) right → length left ≡ length right → k < length left → IsSumSoFar first s left right k sum carry → Keeps s t → IsAdded s t (get_or left k no_set) (get_or right k no_set) carry e next → IsSumSoFar first t left right (k + 1) (sum ++ e ∷ []) next
sum_more first s t left right k sum carry e next left_known right_known same h before keeps added = record {
  keeps = keeps_trans first s t before.keeps keeps;
  digits = longer sum e k before.digits;
  known = All-push (IsKnown t) sum e (all_known-keeps s t keeps sum before.known) added.sum_known;
  carry_known = added.next_known;
  adds = λ x. sum_step (number_at t (sum ++ e ∷ []) x) (number_at s sum x) (2 ^ k) (2 ^ (k + 1)) (digit t e x) (digit t next x) (digit s (get_or left k no_set) x) (digit s (get_or right k no_set) x) (digit s carry x)
      (number_at first (drop (k + 1) left) x) (number_at first (drop (k + 1) right) x) (number_at first (drop k left) x) (number_at first (drop k right) x) (number_at first left x + number_at first right x)
      (double_more k) (added.adds x) (pushed s t keeps k sum e x before.known before.digits)
      (next_digit first s before.keeps left k x no_set h left_known) (next_digit first s before.keeps right k x no_set (subst (λ n. k < n) same h) right_known) (before.adds x);
}

-- ---- differences
pub difference_start : (s : Store) (left right : List SetId) (borrow : SetId) → IsSet s borrow (λ x. false) → IsDifferenceSoFar s s left right 0 [] borrow
difference_start s left right borrow is = record {
  keeps = keeps_refl s;
  digits = refl;
  known = All-nil (IsKnown s);
  borrow_known = is.known;
  takes = λ x. let none : digit s borrow x ≡ 0 = no_digit s borrow x (is.members x) in omega (arith, none);
}

pub difference_more : (first s t : Store) (left right : List SetId) (k : ℕ) (difference : List SetId) (borrow e next : SetId) → All (IsKnown first) left → All (IsKnown first) right → length left ≡ length right → k < length left → IsDifferenceSoFar first s left right k difference borrow → Keeps s t → IsTaken s t (get_or left k no_set) (get_or right k no_set) borrow e next → IsDifferenceSoFar first t left right (k + 1) (difference ++ e ∷ []) next
difference_more first s t left right k difference borrow e next left_known right_known same h before keeps taken = record {
  keeps = keeps_trans first s t before.keeps keeps;
  digits = longer difference e k before.digits;
  known = All-push (IsKnown t) difference e (all_known-keeps s t keeps difference before.known) taken.difference_known;
  borrow_known = taken.next_known;
  takes = λ x. difference_step (number_at t (difference ++ e ∷ []) x) (number_at s difference x) (2 ^ k) (2 ^ (k + 1)) (digit t e x) (digit t next x) (digit s (get_or left k no_set) x) (digit s (get_or right k no_set) x) (digit s borrow x)
      (number_at first (drop (k + 1) left) x) (number_at first (drop (k + 1) right) x) (number_at first (drop k left) x) (number_at first (drop k right) x) (number_at first left x) (number_at first right x)
      (double_more k) (taken.takes x) (pushed s t keeps k difference e x before.known before.digits)
      (next_digit first s before.keeps left k x no_set h left_known) (next_digit first s before.keeps right k x no_set (subst (λ n. k < n) same h) right_known) (before.takes x);
}

-- ---- where words differ
