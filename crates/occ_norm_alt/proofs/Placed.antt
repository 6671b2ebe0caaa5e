-- Assignments in which the bits of a variable are replaced.
use Rattle.std.proofs.Common.{◌≡◌, ◌<◌, ◌≤◌, ◌+◌, ◌-◌, ◌*◌, ◌/◌, ◌%◌, ◌^◌, ◌==◌, ℕ, zero, suc, true, false, cond, min, List, [], ◌∷◌, Option, Some, None, refl, sym, ap, ◌∙◌, subst, inl, inr, ⊎_elim, arith}
use Rattle.std.specs.Prelude.{◌⊎◌}
use Rattle.std.specs.Int.{bit_at}
use Rattle.std.specs.Int.Bits.{bit_and, bit_xor}
use Rattle.std.proofs.Math.Nat.{mod-lt}
use Rattle.std.proofs.lemmas.Bool.{cases_Bool, cases_lt, eqb-false, eqb-true}
use Rattle.std.proofs.lemmas.Nat.{pow_pos}
use Rattle.std.proofs.lemmas.Nat.Bits.{bit_at_and, bit_at_above, bit_at_cat_high, bit_at_cat_low, bit_at_xor, bit_at-lt, same_from_bits, same_from_bits_below}
use Rattle.occ_syntax.specs.occ_base.declared.names.Name.{Name}
use Rattle.occ_syntax.specs.occ_base.declared.width.Width.{Width}
use Rattle.occ_syntax.specs.occ_base.Width.{bits_of}
use Rattle.occ_syntax.specs.declared.scope.Kind.{Kind}
use Rattle.occ_syntax.specs.declared.scope.Kind.TheVariants.{Var, Chan}
use Rattle.occ_syntax.specs.Scopes.{with_value}
use Rattle.occ_norm_frame.specs.occ_bits.Layout.{IsLayout, entry_of, laid_out, scope_in, state_of}
use Rattle.occ_norm_frame.proofs.from_bits.Arithmetic.{higher_bit, low_bit}
use Rattle.occ_norm_frame.proofs.from_bits.Laid.{found_state, same_pair}
use Rattle.occ_norm_frame.specs.occ_dd.Assignment.{with_bit}
use Rattle.occ_norm_frame.proofs.from_dd.Bits.{bit_at-with_bit_other, bit_at-with_bit_same, with_bit_lt}
use Rattle.occ_norm_frame.specs.After.{change_of}
use Rattle.occ_norm_alt.specs.Inputs.{digits_at, placed}

-- ---- the bits of a number of some digits
pub top_low : (u n : ℕ) → u < 2 ^ n → bit_at u n ≡ 0
top_low u n h = bit_at_above u n n h (omega arith)

pub top_high : (u n : ℕ) → u < 2 ^ n → bit_at (2 ^ n + u) n ≡ 1
top_high u n h =
    let e : 2 ^ n + u ≡ 1 * 2 ^ n + u = omega arith in
    let d : n - n ≡ 0 = omega arith in
    ap (λ m. bit_at m n) e ∙ bit_at_cat_high 1 n u n h (omega arith) ∙ ap (bit_at 1) d

pub top_rest : (u n k : ℕ) → k < n → bit_at (2 ^ n + u) k ≡ bit_at u k
top_rest u n k h =
    let e : 2 ^ n + u ≡ 1 * 2 ^ n + u = omega arith in
    ap (λ m. bit_at m k) e ∙ bit_at_cat_low 1 n u k h

-- ---- bits in place
pub placed_same : (first n u v x : ℕ) → ((k : ℕ) → k < n → bit_at u k ≡ bit_at v k) → placed first n u x ≡ placed first n v x
placed_same first zero u v x h = refl
placed_same first (suc n) u v x h =
    let rest : placed first n u x ≡ placed first n v x = placed_same first n u v x (λ k l. h k (omega arith)) in
    let digit : bit_at u n ≡ bit_at v n = h n (omega arith) in
    λ i. with_bit (rest i) (first + n) (digit i)

pub placed_out : (first n v x k : ℕ) → (k < first) ⊎ (first + n ≤ k) → bit_at (placed first n v x) k ≡ bit_at x k
placed_out first zero v x k out = refl
placed_out first (suc n) v x k out =
    bit_at-with_bit_other (placed first n v x) (first + n) (bit_at v n) k (λ e. ⊎_elim (λ (l : k < first). omega arith) (λ (l : first + suc n ≤ k). omega arith) out)
    ∙ placed_out first n v x k (⊎_elim (λ (l : k < first). inl l) (λ (l : first + suc n ≤ k). inr (omega arith)) out)

pub placed_in : (first n v x k : ℕ) → k < n → bit_at (placed first n v x) (first + k) ≡ bit_at v k
placed_in first zero v x k h = absurd (omega arith)
placed_in first (suc n) v x k h = ⊎_elim
    (λ (l : k < n). bit_at-with_bit_other (placed first n v x) (first + n) (bit_at v n) (first + k) (λ e. omega arith) ∙ placed_in first n v x k l)
    (λ (l : n ≤ k).
    let e : k ≡ n = omega arith in
    ap (λ j. bit_at (placed first (suc n) v x) (first + j)) e ∙ bit_at-with_bit_same (placed first n v x) (first + n) (bit_at v n) (bit_at-lt v n) ∙ sym (ap (bit_at v) e))
    (cases_lt k n)

pub placed_small : (first n v x : ℕ) → first + n ≤ 64 → x < 2 ^ 64 → placed first n v x < 2 ^ 64
placed_small first zero v x h l = l
placed_small first (suc n) v x h l = with_bit_lt (placed first n v x) (first + n) (bit_at v n) 64 (omega arith) (placed_small first n v x (omega arith) l)

-- ---- the variables of a layout lie apart
laid_from : (a : ℕ) (scope : List (Name × Kind)) (z : ℕ) (v : Width) (g : ℕ) → entry_of (laid_out a scope) z ≡ Some (v, g) → a ≤ g
laid_from a [] z v g e = absurd (cc)
laid_from a ((n, Var u) ∷ scope) z v g e = ⊎_elim
    (λ (t : (z == n.0) ≡ true). let here : a ≡ g = ap (λ (p : Width × ℕ). p.1) (same_pair (u, a) (v, g) (sym (ap (λ b. cond b (Some (u, a)) (entry_of (laid_out (a + bits_of u) scope) z)) t) ∙ e)) in omega arith)
    (λ (t : (z == n.0) ≡ false). let later : a + bits_of u ≤ g = laid_from (a + bits_of u) scope z v g (sym (ap (λ b. cond b (Some (u, a)) (entry_of (laid_out (a + bits_of u) scope) z)) t) ∙ e) in omega arith)
    (cases_Bool (z == n.0))
laid_from a ((n, Chan u d) ∷ scope) z v g e = laid_from a scope z v g e

here_is : (a : ℕ) (n : ℕ) (u : Width) (entries : List (Name × Width × ℕ)) (z : ℕ) (v : Width) (g : ℕ) → (z == n) ≡ true → cond (z == n) (Some (u, a)) (entry_of entries z) ≡ Some (v, g) → a + bits_of u ≡ g + bits_of v
here_is a n u entries z v g t e = ap (λ (p : Width × ℕ). p.1 + bits_of p.0) (same_pair (u, a) (v, g) (sym (ap (λ b. cond b (Some (u, a)) (entry_of entries z)) t) ∙ e))

later_is : (a : ℕ) (n : ℕ) (u : Width) (entries : List (Name × Width × ℕ)) (z : ℕ) (v : Width) (g : ℕ) → (z == n) ≡ false → cond (z == n) (Some (u, a)) (entry_of entries z) ≡ Some (v, g) → entry_of entries z ≡ Some (v, g)
later_is a n u entries z v g t e = sym (ap (λ b. cond b (Some (u, a)) (entry_of entries z)) t) ∙ e

laid_apart : (a : ℕ) (scope : List (Name × Kind)) (y z : ℕ) (w : Width) (f : ℕ) (v : Width) (g : ℕ) → (y ≡ z → ⊥) → entry_of (laid_out a scope) y ≡ Some (w, f) → entry_of (laid_out a scope) z ≡ Some (v, g) → (f + bits_of w ≤ g) ⊎ (g + bits_of v ≤ f)
laid_apart a [] y z w f v g ne d e = absurd (cc)
laid_apart a ((n, Chan u d) ∷ scope) y z w f v g ne c e = laid_apart a scope y z w f v g ne c e
laid_apart a ((n, Var u) ∷ scope) y z w f v g ne d e = ⊎_elim
    (λ (s : (y == n.0) ≡ true). ⊎_elim
    (λ (t : (z == n.0) ≡ true). absurd (ne (eqb-true y n.0 s ∙ sym (eqb-true z n.0 t))))
    (λ (t : (z == n.0) ≡ false).
    let sum : a + bits_of u ≡ f + bits_of w = here_is a n.0 u (laid_out (a + bits_of u) scope) y w f s d in
    let from : a + bits_of u ≤ g = laid_from (a + bits_of u) scope z v g (later_is a n.0 u (laid_out (a + bits_of u) scope) z v g t e) in
    inl (omega arith))
    (cases_Bool (z == n.0)))
    (λ (s : (y == n.0) ≡ false). ⊎_elim
    (λ (t : (z == n.0) ≡ true).
    let sum : a + bits_of u ≡ g + bits_of v = here_is a n.0 u (laid_out (a + bits_of u) scope) z v g t e in
    let from : a + bits_of u ≤ f = laid_from (a + bits_of u) scope y w f (later_is a n.0 u (laid_out (a + bits_of u) scope) y w f s d) in
    inr (omega arith))
    (λ (t : (z == n.0) ≡ false). laid_apart (a + bits_of u) scope y z w f v g ne (later_is a n.0 u (laid_out (a + bits_of u) scope) y w f s d) (later_is a n.0 u (laid_out (a + bits_of u) scope) z v g t e))
    (cases_Bool (z == n.0)))
    (cases_Bool (y == n.0))

pub entries_apart : (entries : List (Name × Width × ℕ)) → IsLayout entries → (y z : ℕ) (w : Width) (f : ℕ) (v : Width) (g : ℕ) → (y ≡ z → ⊥) → entry_of entries y ≡ Some (w, f) → entry_of entries z ≡ Some (v, g) → (f + bits_of w ≤ g) ⊎ (g + bits_of v ≤ f)
entries_apart entries is y z w f v g ne d e = laid_apart 0 (scope_in entries) y z w f v g ne (ap (λ es. entry_of es y) (sym is.laid) ∙ d) (ap (λ es. entry_of es z) (sym is.laid) ∙ e)

zero_there : (entries : List (Name × Width × ℕ)) (x y : ℕ) → entry_of entries y ≡ None → state_of entries x y ≡ 0
zero_there [] x y e = refl
zero_there ((n, v, g) ∷ entries) x y e = ⊎_elim
    (λ (t : (y == n.0) ≡ true). absurd (clash (v, g) (sym (ap (λ b. cond b (Some (v, g)) (entry_of entries y)) t) ∙ e)))
    (λ (t : (y == n.0) ≡ false). ap (λ b. cond b (x / 2 ^ g % 2 ^ bits_of v) (state_of entries x y)) t ∙ zero_there entries x y (sym (ap (λ b. cond b (Some (v, g)) (entry_of entries y)) t) ∙ e))
    (cases_Bool (y == n.0))
  where
    clash : (p : Width × ℕ) → Some p ≡ None → ⊥
    clash p q = cc

-- the same digits, the same number
same_digits : (x y f g n : ℕ) → ((k : ℕ) → k < n → bit_at x (f + k) ≡ bit_at y (g + k)) → x / 2 ^ f % 2 ^ n ≡ y / 2 ^ g % 2 ^ n
same_digits x y f g n h = same_from_bits_below n (x / 2 ^ f % 2 ^ n) (y / 2 ^ g % 2 ^ n) (mod-lt (x / 2 ^ f) (pow_pos n)) (mod-lt (y / 2 ^ g) (pow_pos n))
    (λ k l. low_bit (x / 2 ^ f) n k l ∙ higher_bit x f k ∙ h k l ∙ sym (low_bit (y / 2 ^ g) n k l ∙ higher_bit y g k))

same_number : (x f n v : ℕ) → v < 2 ^ n → ((k : ℕ) → k < n → bit_at x (f + k) ≡ bit_at v k) → x / 2 ^ f % 2 ^ n ≡ v
same_number x f n v small h = same_from_bits_below n (x / 2 ^ f % 2 ^ n) v (mod-lt (x / 2 ^ f) (pow_pos n)) small
    (λ k l. low_bit (x / 2 ^ f) n k l ∙ higher_bit x f k ∙ h k l)

-- the state of an assignment with the digits of a variable in place
module _ (entries : List (Name × Width × ℕ)) (is : IsLayout entries) (var : ℕ) (w : Width) (f : ℕ) (there : entry_of entries var ≡ Some (w, f)) (v x : ℕ) (small : v < 2 ^ bits_of w) where
  at_other : (z : ℕ) → (z ≡ var → ⊥) → (o : Option (Width × ℕ)) → entry_of entries z ≡ o → state_of entries (placed f (bits_of w) v x) z ≡ state_of entries x z
  at_other z ne None e = zero_there entries (placed f (bits_of w) v x) z e ∙ sym (zero_there entries x z e)
  at_other z ne (Some (u, g)) e =
      let apart = entries_apart entries is z var u g w f ne e there in
      found_state entries z u g (placed f (bits_of w) v x) e
      ∙ same_digits (placed f (bits_of w) v x) x g g (bits_of u) (λ k l. placed_out f (bits_of w) v x (g + k) (⊎_elim (λ (m : g + bits_of u ≤ f). inl (omega arith)) (λ (m : f + bits_of w ≤ g). inr (omega arith)) apart))
      ∙ sym (found_state entries z u g x e)

  at_each : (z : ℕ) → state_of entries (placed f (bits_of w) v x) z ≡ with_value (state_of entries x) var v z
  at_each z = ⊎_elim
      (λ (t : (z == var) ≡ true). ap (state_of entries (placed f (bits_of w) v x)) (eqb-true z var t) ∙ found_state entries var w f (placed f (bits_of w) v x) there
      ∙ same_number (placed f (bits_of w) v x) f (bits_of w) v small (λ k l. placed_in f (bits_of w) v x k l) ∙ sym (ap (λ b. cond b v (state_of entries x z)) t))
      (λ (t : (z == var) ≡ false). at_other z (λ e. differ z e t) (entry_of entries z) refl ∙ sym (ap (λ b. cond b v (state_of entries x z)) t))
      (cases_Bool (z == var))
    where
      differ : (z : ℕ) → z ≡ var → (z == var) ≡ false → ⊥
      differ z e t = eqb-false z var t e

  pub placed_state : state_of entries (placed f (bits_of w) v x) ≡ with_value (state_of entries x) var v
  placed_state = λ i z. at_each z i

-- ---- the change of it
pub row_cases : (first n k : ℕ) → ((j : ℕ) × (j < n) × (k ≡ first + j)) ⊎ ((k < first) ⊎ (first + n ≤ k))
row_cases first n k = ⊎_elim
    (λ (l : k < first). inr (inl l))
    (λ (l : first ≤ k). ⊎_elim
    (λ (m : k < first + n). inl (k - first, omega arith, omega arith))
    (λ (m : first + n ≤ k). inr (inr m))
    (cases_lt k (first + n)))
    (cases_lt k first)

turned_bit : (z x v k : ℕ) → z < 2 → x < 2 → v < 2 → k < 2 → ((z + min x k) % 2 + min v k) % 2 ≡ (z + min ((x + v) % 2) k) % 2
turned_bit z x v k hz hx hv hk = omega arith

still_bit : (z x v k : ℕ) → z < 2 → x < 2 → ((z + min x 0) % 2 + min v 0) % 2 ≡ (z + min ((x + x) % 2) k) % 2
still_bit z x v k hz hx = omega arith

module _ (first n keep row v x : ℕ) (fits : first + n ≤ 64) (small : v < 2 ^ n)
    (inside : (j : ℕ) → j < n → bit_at row (first + j) ≡ bit_at keep (first + j)) (outside : (k : ℕ) → (k < first) ⊎ (first + n ≤ k) → bit_at row k ≡ 0) where
  shifted_in : (j : ℕ) → j < n → bit_at (v * 2 ^ first % 2 ^ 64) (first + j) ≡ bit_at v j
  shifted_in j h =
      let e : v * 2 ^ first ≡ v * 2 ^ first + 0 = omega arith in
      let d : first + j - first ≡ j = omega arith in
      low_bit (v * 2 ^ first) 64 (first + j) (omega arith) ∙ ap (λ m. bit_at m (first + j)) e ∙ bit_at_cat_high v first 0 (first + j) (pow_pos first) (omega arith) ∙ ap (bit_at v) d

  -- turning the bits of the old value, and then those of the new one, is turning what differs
  pub placed_change : (z : ℕ) → bit_xor (bit_xor z (bit_and x row)) (digits_at first row v) ≡ bit_xor z (change_of keep x (placed first n v x))
  placed_change z = same_from_bits _ _ each
    where
      left : (k : ℕ) → bit_at (bit_xor (bit_xor z (bit_and x row)) (digits_at first row v)) k ≡ ((bit_at z k + min (bit_at x k) (bit_at row k)) % 2 + min (bit_at (v * 2 ^ first % 2 ^ 64) k) (bit_at row k)) % 2
      left k = bit_at_xor (bit_xor z (bit_and x row)) (digits_at first row v) k
          ∙ (λ i. ((bit_at_xor z (bit_and x row) k ∙ ap (λ m. (bit_at z k + m) % 2) (bit_at_and x row k)) i + bit_at_and (v * 2 ^ first % 2 ^ 64) row k i) % 2)

      right : (k : ℕ) → bit_at (bit_xor z (change_of keep x (placed first n v x))) k ≡ (bit_at z k + min ((bit_at x k + bit_at (placed first n v x) k) % 2) (bit_at keep k)) % 2
      right k = bit_at_xor z (change_of keep x (placed first n v x)) k
          ∙ ap (λ m. (bit_at z k + m) % 2) (bit_at_and (bit_xor x (placed first n v x)) keep k ∙ ap (λ m. min m (bit_at keep k)) (bit_at_xor x (placed first n v x) k))

      in_row : (j : ℕ) → j < n → bit_at (bit_xor (bit_xor z (bit_and x row)) (digits_at first row v)) (first + j) ≡ bit_at (bit_xor z (change_of keep x (placed first n v x))) (first + j)
      in_row j h = left (first + j)
          ∙ (λ i. ((bit_at z (first + j) + min (bit_at x (first + j)) (inside j h i)) % 2 + min (shifted_in j h i) (inside j h i)) % 2)
          ∙ turned_bit (bit_at z (first + j)) (bit_at x (first + j)) (bit_at v j) (bit_at keep (first + j)) (bit_at-lt z (first + j)) (bit_at-lt x (first + j)) (bit_at-lt v j) (bit_at-lt keep (first + j))
          ∙ sym (right (first + j) ∙ ap (λ m. (bit_at z (first + j) + min ((bit_at x (first + j) + m) % 2) (bit_at keep (first + j))) % 2) (placed_in first n v x j h))

      off_row : (k : ℕ) → (k < first) ⊎ (first + n ≤ k) → bit_at (bit_xor (bit_xor z (bit_and x row)) (digits_at first row v)) k ≡ bit_at (bit_xor z (change_of keep x (placed first n v x))) k
      off_row k out = left k
          ∙ (λ i. ((bit_at z k + min (bit_at x k) (outside k out i)) % 2 + min (bit_at (v * 2 ^ first % 2 ^ 64) k) (outside k out i)) % 2)
          ∙ still_bit (bit_at z k) (bit_at x k) (bit_at (v * 2 ^ first % 2 ^ 64) k) (bit_at keep k) (bit_at-lt z k) (bit_at-lt x k)
          ∙ sym (right k ∙ ap (λ m. (bit_at z k + min ((bit_at x k + m) % 2) (bit_at keep k)) % 2) (placed_out first n v x k out))

      each : (k : ℕ) → bit_at (bit_xor (bit_xor z (bit_and x row)) (digits_at first row v)) k ≡ bit_at (bit_xor z (change_of keep x (placed first n v x))) k
      each k = ⊎_elim
          (λ (h : (j : ℕ) × (j < n) × (k ≡ first + j)). subst (λ m. bit_at (bit_xor (bit_xor z (bit_and x row)) (digits_at first row v)) m ≡ bit_at (bit_xor z (change_of keep x (placed first n v x))) m) (sym h.2) (in_row h.0 h.1))
          (λ (out : (k < first) ⊎ (first + n ≤ k)). off_row k out)
          (row_cases first n k)
