-- The bits that an assignment writes are different ones, and what they change.
use Rattle.std.proofs.Common.{◌≡◌, ◌⊎◌, inl, inr, ℕ, suc, ◌+◌, ◌%◌, ◌<◌, ◌≤◌, ◌^◌, ◌==◌, ◌++◌, Bool, true, false, not, cond, min, List, [], ◌∷◌, Some, length, refl, sym, ap, ◌∙◌, subst, arith, ⊎_elim}
use Rattle.std.proofs.lemmas.Bool.{and_parts, cases_Bool, eqb-true, eqb-false, eq-eqb, ne_eqb}
use Rattle.std.specs.Int.{bit_at}
use Rattle.std.specs.Int.Bits.{bit_xor, xor_assoc, xor_zero_r}
use Rattle.std.specs.List.{list_any}
use Rattle.std.proofs.lemmas.Nat.{xor_comm}
use Rattle.std.proofs.lemmas.Nat.Bits.{bit_at-lt, bit_at-pow_other, bit_at-zero, bit_at_and, bit_at_xor, same_from_bits}
use Rattle.occ_syntax.specs.occ_base.declared.names.Name.{Name}
use Rattle.occ_syntax.specs.occ_base.declared.width.Width.{Width}
use Rattle.occ_syntax.specs.occ_base.Width.{bits_of}
use Rattle.occ_norm_frame.specs.occ_bits.Layout.{IsLayout, entry_of, environment_in}
use Rattle.occ_norm_frame.specs.occ_bits.Words.{digit}
use Rattle.occ_norm_frame.specs.occ_dd.Assignment.{turned, with_bit}
use Rattle.occ_norm_frame.proofs.from_dd.Bits.{bit_at-with_bit_other, bit_cases, with_bit_same}
use Rattle.occ_norm_frame.specs.occ_dd.Store.{has}
use Rattle.occ_norm_frame.specs.occ_dd.declared.set.SetId.{SetId}
use Rattle.occ_norm_frame.specs.occ_dd.declared.store.Store.{Store}
use Rattle.occ_syntax.specs.Tree.{Exp}
use Rattle.occ_syntax.specs.Types.{pairs_kept}
use Rattle.occ_norm_frame.specs.After.{change_of}
use Rattle.occ_norm_assign.specs.Written.{AreAssigned, AreDistinct, IsOff, change_by, differs, digit_writes, onto, step}
use Rattle.occ_norm_assign.specs.declared.writes.Write.{Write}
use Rattle.occ_norm_assign.proofs.Places.{apart}
use Rattle.occ_norm_assign.proofs.Written.{count_is, off_first}

-- ---- no bit is written twice
-- none of the writes is of one of so many bits from a bit on
abbrev OutOf : ℕ → ℕ → List Write → Type 0
OutOf f n [] = Unit {0}
OutOf f n (w ∷ ws) = ((w.bit < f) ⊎ (f + n ≤ w.bit)) × OutOf f n ws

pub off_append : (b : ℕ) (first second : List Write) → IsOff b first → IsOff b second → IsOff b (first ++ second)
off_append b [] second h k = k
off_append b (w ∷ first) second h k = (h.0, off_append b first second h.1 k)

out_append : (f n : ℕ) (first second : List Write) → OutOf f n first → OutOf f n second → OutOf f n (first ++ second)
out_append f n [] second h k = k
out_append f n (w ∷ first) second h k = (h.0, out_append f n first second h.1 k)

off_later : (b g : ℕ) (sets : List SetId) → b < g → IsOff b (digit_writes g sets)
off_later b g [] h = tt
off_later b g (a ∷ sets) h = ((λ (e : g ≡ b). omega arith), off_later b (g + 1) sets (omega arith))

off_out : (f n : ℕ) (ws : List Write) → OutOf f (suc n) ws → IsOff f ws
off_out f n [] h = tt
off_out f n (w ∷ ws) h = (⊎_elim (λ (l : w.bit < f). λ (e : w.bit ≡ f). omega arith) (λ (l : f + suc n ≤ w.bit). λ (e : w.bit ≡ f). omega arith) h.0, off_out f n ws h.1)

out_fewer : (f n : ℕ) (ws : List Write) → OutOf f (suc n) ws → OutOf (f + 1) n ws
out_fewer f n [] h = tt
out_fewer f n (w ∷ ws) h = (⊎_elim (λ (l : w.bit < f). inl (omega arith)) (λ (l : f + suc n ≤ w.bit). inr (omega arith)) h.0, out_fewer f n ws h.1)

digits_distinct : (g : ℕ) (sets : List SetId) (others : List Write) → OutOf g (length sets) others → AreDistinct others → AreDistinct (digit_writes g sets ++ others)
digits_distinct g [] others out d = d
digits_distinct g (a ∷ sets) others out d = (off_append g (digit_writes (g + 1) sets) others (off_later g (g + 1) sets (omega arith)) (off_out g (length sets) others out), digits_distinct (g + 1) sets others (out_fewer g (length sets) others out) d)

digits_out : (f n g : ℕ) (sets : List SetId) → (f + n ≤ g) ⊎ (g + length sets ≤ f) → OutOf f n (digit_writes g sets)
digits_out f n g [] h = tt
digits_out f n g (a ∷ sets) h = (
  ⊎_elim (λ (l : f + n ≤ g). inr l) (λ (l : g + suc (length sets) ≤ f). inl (omega arith)) h,
  digits_out f n (g + 1) sets (⊎_elim (λ (l : f + n ≤ g). inl (omega arith)) (λ (l : g + suc (length sets) ≤ f). inr (omega arith)) h),
)

out_assigned : (s : Store) (layout : List (Name × Width × ℕ)) → IsLayout layout → (ys : List ℕ) (es : List Exp) (writes : List Write) → AreAssigned s layout ys es writes → pairs_kept (environment_in layout) ys es ≡ true
    → (y : ℕ) (v : Width) (f : ℕ) → not (list_any (λ z. y == z) ys) ≡ true → entry_of layout y ≡ Some (v, f) → OutOf f (bits_of v) writes
out_assigned s layout is [] es writes a kept y v f off found = subst (OutOf f (bits_of v)) (sym a) tt
out_assigned s layout is (z ∷ ys) [] writes a kept y v f off found = subst (OutOf f (bits_of v)) (sym a) tt
out_assigned s layout is (z ∷ ys) (e ∷ es) writes a kept y v f off found =
    let p = and_parts _ _ kept in
    let q = and_parts _ _ p.0 in
    let o = off_first (y == z) (list_any (λ u. y == u) ys) off in
    let w = a.written in
    let count : length a.written.sets ≡ bits_of a.written.width = a.written.value.digits ∙ count_is layout z a.written.width a.written.first e a.written.entry q.0 in
    subst (OutOf f (bits_of v)) (sym (a.whole ∙ ap (λ ws. ws ++ a.others) a.written.each))
    (out_append f (bits_of v) (digit_writes a.written.first a.written.sets) a.others
    (digits_out f (bits_of v) a.written.first a.written.sets (subst (λ n. (f + bits_of v ≤ a.written.first) ⊎ (a.written.first + n ≤ f)) (sym count) (apart layout is y z v a.written.width f a.written.first o.0 found a.written.entry)))
    (out_assigned s layout is ys es a.others a.more p.1 y v f o.1 found))

pub assigned_distinct : (s : Store) (layout : List (Name × Width × ℕ)) → IsLayout layout → (ys : List ℕ) (es : List Exp) (writes : List Write) → AreAssigned s layout ys es writes → pairs_kept (environment_in layout) ys es ≡ true → AreDistinct writes
assigned_distinct s layout is [] es writes a kept = subst AreDistinct (sym a) tt
assigned_distinct s layout is (z ∷ ys) [] writes a kept = subst AreDistinct (sym a) tt
assigned_distinct s layout is (z ∷ ys) (e ∷ es) writes a kept =
    let p = and_parts _ _ kept in
    let q = and_parts _ _ p.0 in
    let count : length a.written.sets ≡ bits_of a.written.width = a.written.value.digits ∙ count_is layout z a.written.width a.written.first e a.written.entry q.0 in
    subst AreDistinct (sym (a.whole ∙ ap (λ ws. ws ++ a.others) a.written.each))
    (digits_distinct a.written.first a.written.sets a.others
    (subst (λ n. OutOf a.written.first n a.others) (sym count) (out_assigned s layout is ys es a.others a.more p.1 z a.written.width a.written.first q.1 a.written.entry))
    (assigned_distinct s layout is ys es a.others a.more p.1))

-- ---- what the writes change
kept_bit : (a b c p : ℕ) → a < 2 → b < 2 → c < 2 → (p ≡ 0) ⊎ (p ≡ 1) → (p ≡ 1 → c ≡ 1) → min ((a + (b + p) % 2) % 2) c ≡ (min ((a + b) % 2) c + p) % 2
kept_bit a b c p h i j k l = ⊎_elim (λ (z : p ≡ 0). omega (arith, h, i, j)) (λ (o : p ≡ 1). let e : c ≡ 1 = l o in omega (arith, h, i)) k

free_bit : (a b c p : ℕ) → a < 2 → b < 2 → c < 2 → (p ≡ 0) ⊎ (p ≡ 1) → (p ≡ 1 → c ≡ 0) → min ((a + (b + p) % 2) % 2) c ≡ min ((a + b) % 2) c
free_bit a b c p h i j k l = ⊎_elim (λ (z : p ≡ 0). omega (arith, h, i, j)) (λ (o : p ≡ 1). let e : c ≡ 0 = l o in omega (arith, h, i)) k

power_bit : (b k v keep : ℕ) → bit_at keep b ≡ v → bit_at (2 ^ b) k ≡ 1 → bit_at keep k ≡ v
power_bit b k v keep e one = ⊎_elim
    (λ (t : (k == b) ≡ true). ap (λ j. bit_at keep j) (eqb-true k b t) ∙ e)
    (λ (t : (k == b) ≡ false). absurd (let z : bit_at (2 ^ b) k ≡ 0 = bit_at-pow_other b k (eqb-false k b t) in omega arith))
    (cases_Bool (k == b))

change_kept : (keep x y b : ℕ) → bit_at keep b ≡ 1 → change_of keep x (turned y b) ≡ bit_xor (2 ^ b) (change_of keep x y)
change_kept keep x y b e = same_from_bits _ _ each ∙ xor_comm (change_of keep x y) (2 ^ b)
  where
    each : (k : ℕ) → bit_at (change_of keep x (turned y b)) k ≡ bit_at (bit_xor (change_of keep x y) (2 ^ b)) k
    each k =
        bit_at_and (bit_xor x (turned y b)) keep k ∙ ap (λ n. min n (bit_at keep k)) (bit_at_xor x (turned y b) k ∙ ap (λ n. (bit_at x k + n) % 2) (bit_at_xor y (2 ^ b) k))
        ∙ kept_bit (bit_at x k) (bit_at y k) (bit_at keep k) (bit_at (2 ^ b) k) (bit_at-lt x k) (bit_at-lt y k) (bit_at-lt keep k) (bit_cases (2 ^ b) k) (power_bit b k 1 keep e)
        ∙ sym (bit_at_xor (change_of keep x y) (2 ^ b) k ∙ ap (λ n. (n + bit_at (2 ^ b) k) % 2) (bit_at_and (bit_xor x y) keep k ∙ ap (λ n. min n (bit_at keep k)) (bit_at_xor x y k)))

change_free : (keep x y b : ℕ) → bit_at keep b ≡ 0 → change_of keep x (turned y b) ≡ change_of keep x y
change_free keep x y b e = same_from_bits _ _ each
  where
    each : (k : ℕ) → bit_at (change_of keep x (turned y b)) k ≡ bit_at (change_of keep x y) k
    each k =
        bit_at_and (bit_xor x (turned y b)) keep k ∙ ap (λ n. min n (bit_at keep k)) (bit_at_xor x (turned y b) k ∙ ap (λ n. (bit_at x k + n) % 2) (bit_at_xor y (2 ^ b) k))
        ∙ free_bit (bit_at x k) (bit_at y k) (bit_at keep k) (bit_at (2 ^ b) k) (bit_at-lt x k) (bit_at-lt y k) (bit_at-lt keep k) (bit_cases (2 ^ b) k) (power_bit b k 0 keep e)
        ∙ sym (bit_at_and (bit_xor x y) keep k ∙ ap (λ n. min n (bit_at keep k)) (bit_at_xor x y k))

zero_first : (n : ℕ) → n ≡ bit_xor 0 n
zero_first n = sym (xor_comm 0 n ∙ xor_zero_r n)

change_step : (s : Store) (keep : ℕ) (w : Write) (x y : ℕ) → bit_at y w.bit ≡ bit_at x w.bit
    → change_of keep x (with_bit y w.bit (digit s w.set x)) ≡ bit_xor (step s keep w x) (change_of keep x y)
change_step s keep w x y same = at (has s w.set x) (bit_at x w.bit) refl refl (bit_cases x w.bit) (bit_cases keep w.bit)
  where
    stays : (t : Bool) → bit_at x w.bit ≡ cond t 1 0 → has s w.set x ≡ t → differs t (bit_at x w.bit) ≡ false
        → change_of keep x (with_bit y w.bit (digit s w.set x)) ≡ bit_xor (step s keep w x) (change_of keep x y)
    stays t e h d =
        ap (change_of keep x) (ap (λ b. with_bit y w.bit (cond b 1 0)) h ∙ with_bit_same y w.bit (cond t 1 0) (same ∙ e))
        ∙ zero_first (change_of keep x y)
        ∙ ap (λ n. bit_xor n (change_of keep x y)) (sym (ap (λ b. cond (bit_at keep w.bit == 1) (cond (differs b (bit_at x w.bit)) (2 ^ w.bit) 0) 0) h ∙ ap (λ b. cond (bit_at keep w.bit == 1) (cond b (2 ^ w.bit) 0) 0) d ∙ nothing 0 (bit_at keep w.bit == 1)))
      where
        nothing : (n : ℕ) (b : Bool) → cond b n n ≡ n
        nothing n true = refl
        nothing n false = refl

    turns : (t : Bool) → (bit_at x w.bit ≡ cond t 1 0 → ⊥) → has s w.set x ≡ t → differs t (bit_at x w.bit) ≡ true → (bit_at keep w.bit ≡ 0) ⊎ (bit_at keep w.bit ≡ 1)
        → change_of keep x (with_bit y w.bit (digit s w.set x)) ≡ bit_xor (step s keep w x) (change_of keep x y)
    turns t e h d k =
        ap (change_of keep x) (ap (λ b. with_bit y w.bit (cond b 1 0)) h ∙ ap (λ b. cond b y (turned y w.bit)) (ne_eqb (bit_at y w.bit) (cond t 1 0) (λ g. e (sym same ∙ g))))
        ∙ ⊎_elim
        (λ (z : bit_at keep w.bit ≡ 0). change_free keep x y w.bit z ∙ zero_first (change_of keep x y) ∙ ap (λ n. bit_xor n (change_of keep x y)) (sym (ap (λ b. cond b (cond (differs (has s w.set x) (bit_at x w.bit)) (2 ^ w.bit) 0) 0) (ne_eqb (bit_at keep w.bit) 1 (λ g. omega arith)))))
        (λ (o : bit_at keep w.bit ≡ 1). change_kept keep x y w.bit o ∙ ap (λ n. bit_xor n (change_of keep x y)) (sym (ap (λ b. cond b (cond (differs (has s w.set x) (bit_at x w.bit)) (2 ^ w.bit) 0) 0) (eq-eqb (bit_at keep w.bit) 1 o) ∙ ap (λ b. cond (differs b (bit_at x w.bit)) (2 ^ w.bit) 0) h ∙ ap (λ b. cond b (2 ^ w.bit) 0) d)))
        k

    at : (t : Bool) (v : ℕ) → has s w.set x ≡ t → bit_at x w.bit ≡ v → (bit_at x w.bit ≡ 0) ⊎ (bit_at x w.bit ≡ 1) → (bit_at keep w.bit ≡ 0) ⊎ (bit_at keep w.bit ≡ 1)
        → change_of keep x (with_bit y w.bit (digit s w.set x)) ≡ bit_xor (step s keep w x) (change_of keep x y)
    at true v h e (inl z) k = turns true (λ g. omega arith) h (ap (λ n. not (n == 1)) z) k
    at true v h e (inr o) k = stays true o h (ap (λ n. not (n == 1)) o)
    at false v h e (inl z) k = stays false z h (ap (λ n. n == 1) z)
    at false v h e (inr o) k = turns false (λ g. omega arith) h (ap (λ n. n == 1) o) k

-- two assignments have the same bits where writes are made
abbrev AgreeAt : ℕ → ℕ → List Write → Type 0
AgreeAt x y [] = Unit {0}
AgreeAt x y (w ∷ ws) = (bit_at y w.bit ≡ bit_at x w.bit) × AgreeAt x y ws

agree_first : (x : ℕ) (ws : List Write) → AgreeAt x x ws
agree_first x [] = tt
agree_first x (w ∷ ws) = (refl, agree_first x ws)

agree_with : (x y b v : ℕ) (ws : List Write) → IsOff b ws → AgreeAt x y ws → AgreeAt x (with_bit y b v) ws
agree_with x y b v [] off h = tt
agree_with x y b v (w ∷ ws) off h = (bit_at-with_bit_other y b v w.bit off.0 ∙ h.0, agree_with x y b v ws off.1 h.1)

change_onto : (s : Store) (keep : ℕ) (ws : List Write) (x y : ℕ) → AreDistinct ws → AgreeAt x y ws → change_of keep x (onto s ws x y) ≡ bit_xor (change_by s keep ws x) (change_of keep x y)
change_onto s keep [] x y d h = zero_first (change_of keep x y)
change_onto s keep (w ∷ ws) x y d h =
    change_onto s keep ws x (with_bit y w.bit (digit s w.set x)) d.1 (agree_with x y w.bit (digit s w.set x) ws d.0 h.1)
    ∙ ap (bit_xor (change_by s keep ws x)) (change_step s keep w x y h.0)
    ∙ sym (xor_assoc (change_by s keep ws x) (step s keep w x) (change_of keep x y))
    ∙ ap (λ n. bit_xor n (change_of keep x y)) (xor_comm (change_by s keep ws x) (step s keep w x))

no_change : (keep x : ℕ) → change_of keep x x ≡ 0
no_change keep x = same_from_bits _ _ each
  where
    none : (a c : ℕ) → a < 2 → c < 2 → min ((a + a) % 2) c ≡ 0
    none a c h i = omega arith

    each : (k : ℕ) → bit_at (change_of keep x x) k ≡ bit_at 0 k
    each k = bit_at_and (bit_xor x x) keep k ∙ ap (λ n. min n (bit_at keep k)) (bit_at_xor x x k) ∙ none (bit_at x k) (bit_at keep k) (bit_at-lt x k) (bit_at-lt keep k) ∙ sym (bit_at-zero k)

pub change_all : (s : Store) (keep : ℕ) (ws : List Write) (x : ℕ) → AreDistinct ws → change_by s keep ws x ≡ change_of keep x (onto s ws x x)
change_all s keep ws x d = sym (change_onto s keep ws x x d (agree_first x ws) ∙ ap (bit_xor (change_by s keep ws x)) (no_change keep x) ∙ xor_zero_r (change_by s keep ws x))

pub change_more : (s : Store) (keep : ℕ) (ws : List Write) (w : Write) (x : ℕ) → change_by s keep (ws ++ w ∷ []) x ≡ bit_xor (change_by s keep ws x) (step s keep w x)
change_more s keep [] w x = xor_comm (step s keep w x) 0
change_more s keep (v ∷ ws) w x = ap (bit_xor (step s keep v x)) (change_more s keep ws w x) ∙ sym (xor_assoc (step s keep v x) (change_by s keep ws x) (step s keep w x))
