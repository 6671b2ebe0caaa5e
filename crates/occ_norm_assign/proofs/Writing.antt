-- Digits as writes of those bits that they change.
use Rattle.std.proofs.Common.{◌≡◌, ◌<◌, ◌+◌, ◌++◌, ◌==◌, ℕ, suc, List, [], ◌∷◌, length, get_or, take, inr, add-one, refl, sym, ap, ◌∙◌, subst, arith}
use Rattle.std.proofs.lemmas.List.{length-take-le}
use Rattle.std.proofs.lemmas.List.Elements.{All-push}
use Rattle.std.specs.Int.{bit_at}
use Rattle.occ_norm_frame.specs.occ_bits.Words.{digit}
use Rattle.occ_norm_frame.specs.occ_dd.Store.{IsSet, Keeps, has}
use Rattle.occ_norm_frame.proofs.from_dd.Callers.{known-keeps}
use Rattle.occ_norm_frame.specs.occ_dd.declared.set.SetId.{SetId}
use Rattle.occ_norm_frame.specs.occ_dd.declared.store.Store.{Store}
use Rattle.occ_norm_frame.specs.occ_dd.Assignment.{with_bit}
use Rattle.occ_norm_frame.proofs.from_dd.Bits.{with_bit_same}
use Rattle.occ_norm_frame.specs.occ_bits.Digits.{AreDigits, reached_by}
use Rattle.occ_norm_frame.proofs.from_bits.Reaching.{digit_of_bit, put_outside, reached_by-keeps, reached_more}
use Rattle.occ_norm_assign.specs.Writes.{AreWrites, IsWrite}
use Rattle.occ_norm_assign.specs.Written.{AreDistinct, onto}
use Rattle.occ_norm_assign.specs.declared.writes.Write.{Write}
use Rattle.occ_norm_assign.proofs.Apart.{off_append}
use Rattle.occ_norm_assign.proofs.Keeping.{no_writes, writes-extend}
use Rattle.occ_norm_assign.proofs.Substituted.{onto-keeps}
use Rattle.occ_norm_assign.proofs.Written.{onto_append}
use Rattle.occ_norm_frame.specs.occ_node.declared.world.World.{World}
use Rattle.occ_norm_frame.specs.Maps.{Extends}

-- each write is of a bit below one
abbrev pub AreLow : ℕ → List Write → Type 0
AreLow n [] = Unit {0}
AreLow n (w ∷ ws) = (w.bit < n) × AreLow n ws

pub low_more : (n : ℕ) (ws : List Write) → AreLow n ws → AreLow (n + 1) ws
low_more n [] h = tt
low_more n (w ∷ ws) h = (let l : w.bit < n = h.0 in omega arith, low_more n ws h.1)

pub low_push : (n : ℕ) (ws : List Write) (w : Write) → AreLow n ws → w.bit ≡ n → AreLow (n + 1) (ws ++ w ∷ [])
low_push n [] w h e = (omega (arith, e), tt)
low_push n (v ∷ ws) w h e = (let l : v.bit < n = h.0 in omega arith, low_push n ws w h.1 e)

pub distinct_push : (n : ℕ) (ws : List Write) (w : Write) → AreLow n ws → w.bit ≡ n → AreDistinct ws → AreDistinct (ws ++ w ∷ [])
distinct_push n [] w h e d = (tt, tt)
distinct_push n (v ∷ ws) w h e d =
    (off_append v.bit ws (w ∷ []) d.0 ((λ (f : w.bit ≡ v.bit). let l : v.bit < n = h.0 in omega (arith, l, e, f)), tt), distinct_push n ws w h.1 e d.1)

-- the writes make what the first digits make, so many
abbrev pub MakeFirst : Store → List SetId → ℕ → List Write → Type 0
MakeFirst s digits n writes = (x : ℕ) → onto s writes x x ≡ reached_by s digits n x

pub make_later : (s t : Store) → Keeps s t → (digits : List SetId) → AreDigits s digits → (n : ℕ) (writes : List Write) → AreWrites s writes → MakeFirst s digits n writes → MakeFirst t digits n writes
make_later s t k digits are n writes all make x = onto-keeps s t k writes all x x ∙ make x ∙ sym (reached_by-keeps s t k digits are n x)

-- what is so while the digits are gone through: so many have come
pub record AreWritten (w : World) (digits : List SetId) (n : ℕ) (writes : List Write) : Type 0 where
  pub all : AreWrites w.store writes
  pub low : AreLow n writes
  pub distinct : AreDistinct writes
  pub make : MakeFirst w.store digits n writes

-- a digit that changes its bit
pub make_push : (s : Store) (digits : List SetId) (n : ℕ) (d : SetId) (writes : List Write) → n < length digits → MakeFirst s digits n writes → MakeFirst s digits (suc n) (writes ++ record { bit = n; set = get_or digits n d } ∷ [])
make_push s digits n d writes h make x =
    onto_append s writes (record { bit = n; set = get_or digits n d } ∷ []) x x ∙ ap (λ y. with_bit y n (digit s (get_or digits n d) x)) (make x) ∙ sym (reached_more s digits n d x h)

-- a digit that is that of its bit
pub make_same : (s : Store) (digits : List SetId) (n : ℕ) (d stays : SetId) (writes : List Write) → n < length digits → IsSet s stays (λ x. bit_at x n == 1) → (get_or digits n d).0 ≡ stays.0
    → MakeFirst s digits n writes → MakeFirst s digits (suc n) writes
make_same s digits n d stays writes h is e make x =
    make x
    ∙ sym (with_bit_same (reached_by s digits n x) n (digit s (get_or digits n d) x) (bit ∙ sym value))
    ∙ sym (reached_more s digits n d x h)
  where
    bit : bit_at (reached_by s digits n x) n ≡ bit_at x n
    bit = put_outside s (take n digits) 0 x x n (inr (let size : length (take n digits) ≡ n = length-take-le n digits (omega (arith, h)) in omega (arith, size)))

    value : digit s (get_or digits n d) x ≡ bit_at x n
    value = digit_of_bit s (get_or digits n d) x n (ap (λ m. has s (record { 0 = m }) x) e ∙ is.members x)

-- one digit more, which changes its bit; the worlds: before it, and once the set of its bit is made
pub written_more : (v w : World) → Extends v w → (digits : List SetId) (n : ℕ) (d : SetId) (writes new : List Write) → AreDigits v.store digits → n < 64 → new ≡ writes ++ record { bit = n; set = get_or digits n d } ∷ []
    → AreWritten v digits n writes → AreWritten w digits (n + 1) new
written_more v w k digits n d writes new are h e before = subst (AreWritten w digits (n + 1)) (sym e) (record {
  all = All-push (IsWrite w.store) writes (record { bit = n; set = get_or digits n d }) (writes-extend v w k writes before.all)
      (record { within = h; known = known-keeps v.store w.store k.grows.stored (get_or digits n d) (are.known n d (omega (arith, h, are.count))) });
  low = low_push n writes (record { bit = n; set = get_or digits n d }) before.low refl;
  distinct = distinct_push n writes (record { bit = n; set = get_or digits n d }) before.low refl before.distinct;
  make = subst (λ m. MakeFirst w.store digits m (writes ++ record { bit = n; set = get_or digits n d } ∷ [])) (sym (add-one n))
      (make_push w.store digits n d writes (omega (arith, h, are.count)) (make_later v.store w.store k.grows.stored digits are n writes before.all before.make));
})

-- one digit more, which is that of its bit
pub written_same : (v w : World) → Extends v w → (digits : List SetId) (n : ℕ) (d stays : SetId) (writes : List Write) → AreDigits v.store digits → n < 64 → IsSet w.store stays (λ x. bit_at x n == 1) → (get_or digits n d).0 ≡ stays.0
    → AreWritten v digits n writes → AreWritten w digits (n + 1) writes
written_same v w k digits n d stays writes are h is e before = record {
  all = writes-extend v w k writes before.all;
  low = low_more n writes before.low;
  distinct = before.distinct;
  make = subst (λ m. MakeFirst w.store digits m writes) (sym (add-one n))
      (make_same w.store digits n d stays writes (omega (arith, h, are.count)) is e (make_later v.store w.store k.grows.stored digits are n writes before.all before.make));
}

pub none_written : (w : World) (digits : List SetId) (writes : List Write) → writes ≡ [] → AreWritten w digits 0 writes
none_written w digits writes e = subst (AreWritten w digits 0) (sym e) (record { all = no_writes w.store [] refl; low = tt; distinct = tt; make = λ x. refl })
