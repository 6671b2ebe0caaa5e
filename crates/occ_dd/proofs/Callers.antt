use Rattle.std.proofs.Common.{◌≡◌, ◌⊎◌, ℕ, zero, suc, ◌<◌, ◌≤◌, ◌%◌, ◌^◌, ◌==◌, Bool, true, false, List, refl, sym, ap, ◌∙◌, inl, inr, ⊎_elim, arith}
use Rattle.std.specs.List.{All}
use Rattle.std.proofs.lemmas.Bool.{cases_eq}
use Rattle.std.proofs.lemmas.Nat.{div-add-mod'}
use Rattle.std.proofs.lemmas.Nat.Bits.{bit_at_cat_low}
use Rattle.std.specs.Int.{bit_at}
use Rattle.occ_dd.proofs.DiagramLemmas.{depth-le, end_agree, end-turned_free}
use Rattle.occ_dd.specs.Assignment.{turned}
use Rattle.occ_dd.specs.Diagram.{depth_of}
use Rattle.occ_dd.specs.Table.{nodes_of}
use Rattle.occ_dd.specs.Store.{sets_of, IsKnown, has, depth, IsConstant, IsEmpty, IsFull, Keeps, IsSet}
use Rattle.occ_dd.specs.declared.set.SetId.{SetId}
use Rattle.occ_dd.specs.declared.store.Store.{Store}
use Rattle.occ_dd.proofs.Sets.{has_end, one_number, empty_set, full_set, depth-empty, depth-full}

-- What callers of a store cite.

pub keeps_refl : (s : Store) → Keeps s s
keeps_refl s = record { more = omega arith; same = λ a x h. refl; depths = λ a h. refl }

pub known-keeps : (s t : Store) → Keeps s t → (a : SetId) → IsKnown s a → IsKnown t a
known-keeps s t k a h = let more : sets_of s ≤ sets_of t = k.more in omega arith

pub keeps_trans : (r s t : Store) → Keeps r s → Keeps s t → Keeps r t
keeps_trans r s t k l =
    let first : sets_of r ≤ sets_of s = k.more in
    let second : sets_of s ≤ sets_of t = l.more in
    record {
      more = omega arith;
      same = λ a x h. l.same a x (known-keeps r s k a h) ∙ k.same a x h;
      depths = λ a h. l.depths a (known-keeps r s k a h) ∙ k.depths a h;
    }

pub all_known-keeps : (s t : Store) → Keeps s t → (sets : List SetId) → All (IsKnown s) sets → All (IsKnown t) sets
all_known-keeps s t k sets known i d h = known-keeps s t k _ (known i d h)

-- a set keeps its members
pub set-keeps : (s t : Store) → Keeps s t → (r : SetId) (test : ℕ → Bool) → IsSet s r test → IsSet t r test
set-keeps s t k r test is = record { known = known-keeps s t k r is.known; members = λ x. k.same r x is.known ∙ is.members x }

low_bits : (x b i : ℕ) → i < b → bit_at (x % 2 ^ b) i ≡ bit_at x i
low_bits x b i h = sym (bit_at_cat_low _ b (x % 2 ^ b) i h) ∙ ap (λ n. bit_at n i) (div-add-mod' x (2 ^ b))

-- only the low 64 bits of a number matter
pub has-low : (s : Store) (a : SetId) (x : ℕ) → has s a (x % 2 ^ 64) ≡ has s a x
has-low s a x = has_end s a (x % 2 ^ 64) ∙ ap (λ n. n == s.full) (end_agree (nodes_of s.table) s.table.diagram 64 a.0 (x % 2 ^ 64) x (depth-le (nodes_of s.table) s.table.diagram a.0) (low_bits x 64)) ∙ sym (has_end s a x)

-- a bit that is not below the depth doesn't matter
pub has-free : (s : Store) (a : SetId) (b x : ℕ) → depth s a ≤ b → has s a (turned x b) ≡ has s a x
unfolding depth
has-free s a b x h = has_end s a (turned x b) ∙ ap (λ n. n == s.full) (end-turned_free (nodes_of s.table) s.table.diagram a.0 b x h) ∙ sym (has_end s a x)

-- ---- the constant sets
pub depth-constant : (s : Store) (a : SetId) → IsKnown s a → IsConstant s a → depth s a ≡ 0
unfolding depth
depth-constant s a h w = ⊎_elim
    (λ (empty : IsEmpty s a). ap (depth_of (nodes_of s.table)) (one_number s a _ h (empty_set s).known (λ x _. empty x ∙ sym ((empty_set s).members x))) ∙ depth-empty s)
    (λ (full : IsFull s a). ap (depth_of (nodes_of s.table)) (one_number s a _ h (full_set s).known (λ x _. full x ∙ sym ((full_set s).members x))) ∙ depth-full s)
    w

-- a test of the numbers below n passes at one of them or at none
some_or_none : (test : ℕ → Bool) (n : ℕ) → ((x : ℕ) × (x < n) × (test x ≡ true)) ⊎ ((x : ℕ) → x < n → test x ≡ false)
some_or_none test zero = inr (λ x h. absurd (omega arith))
some_or_none test (suc n) = ⊎_elim
    (λ (w : (x : ℕ) × (x < n) × (test x ≡ true)). let h : w.0 < n = w.1 in inl (w.0, omega (arith, h), w.2))
    (λ (none : (x : ℕ) → x < n → test x ≡ false). last (test n) none refl)
    (some_or_none test n)
  where
    last : (b : Bool) → ((x : ℕ) → x < n → test x ≡ false) → test n ≡ b → ((x : ℕ) × (x < suc n) × (test x ≡ true)) ⊎ ((x : ℕ) → x < suc n → test x ≡ false)
    last true none e = inl (n, omega arith, e)
    last false none e = inr (λ x h. ⊎_elim (λ (k : x ≡ n). ap test k ∙ e) (λ (k : x ≡ n → ⊥). none x (omega (arith, k, h))) (cases_eq x n))

-- a set that isn't the empty one has a member
pub member-other : (s : Store) (a none : SetId) → IsKnown s a → IsSet s none (λ x. false) → (a.0 ≡ none.0 → ⊥) → (x : ℕ) × (x < 2 ^ 64) × (has s a x ≡ true)
member-other s a none h is other = ⊎_elim
    (λ (w : (x : ℕ) × (x < 2 ^ 64) × (has s a x ≡ true)). w)
    (λ (all : (x : ℕ) → x < 2 ^ 64 → has s a x ≡ false). absurd (other (one_number s a none h is.known (λ x below. all x below ∙ sym (is.members x)))))
    (some_or_none (has s a) (2 ^ 64))
