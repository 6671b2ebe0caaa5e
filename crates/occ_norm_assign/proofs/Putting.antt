-- One digit in place of another, and digits as the world grows.
use Rattle.std.proofs.Common.{◌≡◌, ◌<◌, ◌∙◌, ℕ, List, length, get_or, set, length-set, ap, sym, arith, ⊎_elim}
use Rattle.std.proofs.Math.Seq.{get_or-set_other, get_or-set_same}
use Rattle.std.proofs.lemmas.Bool.{cases_eq}
use Rattle.std.proofs.lemmas.List.{take_all}
use Rattle.std.proofs.lemmas.List.Elements.{All-set}
use Rattle.std.specs.Int.{bit_at}
use Rattle.occ_norm_frame.specs.occ_bits.Words.{digit}
use Rattle.occ_norm_frame.proofs.from_bits.Numbers.{digit_small}
use Rattle.occ_norm_frame.specs.occ_dd.Assignment.{with_bit}
use Rattle.occ_norm_frame.proofs.from_dd.Bits.{bit_at-with_bit_other, bit_at-with_bit_same}
use Rattle.occ_norm_frame.specs.occ_dd.Store.{IsKnown, Keeps}
use Rattle.occ_norm_frame.specs.occ_dd.declared.set.SetId.{SetId}
use Rattle.occ_norm_frame.specs.occ_dd.declared.store.Store.{Store}
use Rattle.occ_norm_frame.specs.occ_bits.Digits.{AreDigits, put_from, reached, reached_by}
use Rattle.occ_norm_frame.proofs.from_bits.Reaching.{none, put-keeps, reached_bit, reached_high, reached_is}

pub reached_all : (s : Store) (digits : List SetId) (x : ℕ) → length digits ≡ 64 → reached_by s digits 64 x ≡ reached s digits x
reached_all s digits x size = ap (λ ds. put_from s 0 ds x x) (take_all 64 digits (omega (arith, size)))

pub reached-keeps : (s t : Store) → Keeps s t → (digits : List SetId) → AreDigits s digits → (x : ℕ) → reached t digits x ≡ reached s digits x
reached-keeps s t k digits are x = put-keeps s t k digits are.known 0 x x

-- ---- one digit is put in place of another
pub reached_set : (s : Store) (digits : List SetId) (b : ℕ) (c : SetId) (x : ℕ) → length digits ≡ 64 → b < 64 → reached s (set digits b c) x ≡ with_bit (reached s digits x) b (digit s c x)
reached_set s digits b c x size h = reached_is s (set digits b c) x (with_bit (reached s digits x) b (digit s c x)) (length-set digits b c ∙ size)
    (λ k l. ⊎_elim
    (λ (e : k ≡ b). ap (λ a. digit s a x) (ap (λ j. get_or (set digits b c) j none) e ∙ get_or-set_same digits b c none (omega (arith, size, h)))
    ∙ sym (bit_at-with_bit_same (reached s digits x) b (digit s c x) (digit_small s c x)) ∙ ap (bit_at (with_bit (reached s digits x) b (digit s c x))) (sym e))
    (λ (e : k ≡ b → ⊥). ap (λ a. digit s a x) (get_or-set_other digits b k c none e) ∙ sym (reached_bit s digits x k (omega (arith, size, l))) ∙ sym (bit_at-with_bit_other (reached s digits x) b (digit s c x) k e))
    (cases_eq k b))
    (λ k l. sym (reached_high s digits x k (omega (arith, size, l))) ∙ sym (bit_at-with_bit_other (reached s digits x) b (digit s c x) k (λ (e : k ≡ b). omega (arith, e, h, l))))

pub digits_set : (s : Store) (digits : List SetId) (b : ℕ) (c : SetId) → IsKnown s c → AreDigits s digits → AreDigits s (set digits b c)
digits_set s digits b c known are = record { count = length-set digits b c ∙ are.count; known = All-set (IsKnown s) digits b c known are.known }
