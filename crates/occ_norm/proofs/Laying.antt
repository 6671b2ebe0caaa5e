-- The bits of a variable that is declared behind others.
use Rattle.std.proofs.Common.{◌≡◌, ◌<◌, ◌≤◌, ◌^◌, ◌/◌, ◌%◌, ◌*◌, ◌+◌, ◌-◌, ◌++◌, ◌==◌, ⊎_elim, inl, inr, ℕ, Bool, true, false, List, [], ◌∷◌, Some, None, cond, refl, sym, ap, ◌∙◌, arith}
use Rattle.std.proofs.lemmas.Bool.{cases_Bool, eqb-true, eq-eqb}
use Rattle.std.proofs.lemmas.Nat.{pow_pos}
use Rattle.std.proofs.lemmas.Nat.Bits.{bit_at_cat_high, bit_at_cat_low, same_from_bits_below}
use Rattle.std.proofs.Math.Nat.{mod-lt}
use Rattle.std.specs.Int.{bit_at}
use mathlib.Core.Path.{fun_ext}
use Rattle.occ_syntax.specs.occ_base.declared.names.Name.{Name}
use Rattle.occ_syntax.specs.occ_base.declared.width.Width.{Width}
use Rattle.occ_syntax.specs.occ_base.Width.{bits_of}
use Rattle.occ_compare.specs.occ_bits.Layout.{laid_out, state_of}
use Rattle.occ_compare.proofs.from_bits.Arithmetic.{higher_bit, low_bit}
use Rattle.occ_syntax.specs.declared.scope.Kind.{Kind}
use Rattle.occ_syntax.specs.declared.scope.Kind.TheVariants.{Var, Chan}
use Rattle.occ_syntax.specs.Counts.{bits_of_scope}
use Rattle.occ_syntax.specs.Scopes.{Values, environment, with_value}
use Rattle.occ_norm_alt.specs.occ_norm_frame.Changes.{AgreeOutside}

-- ---- the layout with one variable more
pub laid-push : (first : ℕ) (vars : List (Name × Kind)) (x : Name) (wd : Width) → laid_out first (vars ++ (x, Var wd) ∷ []) ≡ laid_out first vars ++ (x, wd, first + bits_of_scope vars) ∷ []
laid-push first [] x wd = ap (λ n. (x, wd, n) ∷ []) (zero_more first)
  where
    zero_more : (n : ℕ) → n ≡ n + 0
    zero_more n = omega arith
laid-push first ((y, Var v) ∷ vars) x wd = ap (λ l. (y, v, first) ∷ l) (laid-push (first + bits_of v) vars x wd ∙ ap (λ n. laid_out (first + bits_of v) vars ++ (x, wd, n) ∷ []) (assoc first (bits_of v) (bits_of_scope vars)))
  where
    assoc : (a b c : ℕ) → a + b + c ≡ a + (b + c)
    assoc a b c = omega arith
laid-push first ((y, Chan v d) ∷ vars) x wd = laid-push first vars x wd ∙ ap (λ n. laid_out first vars ++ (x, wd, n) ∷ []) (assoc first (bits_of_scope vars))
  where
    assoc : (a c : ℕ) → a + c ≡ a + (0 + c)
    assoc a c = omega arith

-- the name isn't among those of the layout
abbrev pub IsFresh : List (Name × Width × ℕ) → ℕ → Type 0
IsFresh [] x = Unit {0}
IsFresh (entry ∷ entries) x = ((x == entry.0.0) ≡ false) × IsFresh entries x

pub fresh_laid : (first : ℕ) (vars : List (Name × Kind)) (x : ℕ) → environment vars x ≡ None → IsFresh (laid_out first vars) x
fresh_laid first [] x h = tt
fresh_laid first ((y, Var v) ∷ vars) x h = ⊎_elim
    (λ (e : (x == y.0) ≡ true). absurd (let f : Some (Var v) ≡ None = sym (ap (λ b. cond b (Some (Var v)) (environment vars x)) e) ∙ h in cc))
    (λ (e : (x == y.0) ≡ false). (e, fresh_laid (first + bits_of v) vars x (sym (ap (λ b. cond b (Some (Var v)) (environment vars x)) e) ∙ h)))
    (cases_Bool (x == y.0))
fresh_laid first ((y, Chan v d) ∷ vars) x h = ⊎_elim
    (λ (e : (x == y.0) ≡ true). absurd (let f : Some (Chan v d) ≡ None = sym (ap (λ b. cond b (Some (Chan v d)) (environment vars x)) e) ∙ h in cc))
    (λ (e : (x == y.0) ≡ false). fresh_laid first vars x (sym (ap (λ b. cond b (Some (Chan v d)) (environment vars x)) e) ∙ h))
    (cases_Bool (x == y.0))

pub fresh_state : (layout : List (Name × Width × ℕ)) (x u : ℕ) → IsFresh layout x → state_of layout u x ≡ 0
fresh_state [] x u h = refl
fresh_state (entry ∷ entries) x u h = ap (λ b. cond b (u / 2 ^ entry.2 % 2 ^ bits_of entry.1) (state_of entries u x)) h.0 ∙ fresh_state entries x u h.1

apart : (s : Values) (a b v z : ℕ) → (a == b) ≡ false → with_value (with_value s a v) b z ≡ with_value (with_value s b z) a v
apart s a b v z h = fun_ext (λ y. at y (y == b) refl (y == a) refl)
  where
    at : (y : ℕ) (p : Bool) → (y == b) ≡ p → (q : Bool) → (y == a) ≡ q → cond p z (cond q v (s y)) ≡ cond q v (cond p z (s y))
    at y true e true f = absurd (let g : true ≡ false = sym (eq-eqb a b (sym (eqb-true y a f) ∙ eqb-true y b e)) ∙ h in cc)
    at y true e false f = refl
    at y false e true f = refl
    at y false e false f = refl

-- its state: the variable has the value of the bits from n on
pub state-push : (layout : List (Name × Width × ℕ)) (x : Name) (wd : Width) (n u : ℕ) → IsFresh layout x.0 → state_of (layout ++ (x, wd, n) ∷ []) u ≡ with_value (state_of layout u) x.0 (u / 2 ^ n % 2 ^ bits_of wd)
state-push [] x wd n u h = refl
state-push (entry ∷ entries) x wd n u h =
    ap (λ s. with_value s entry.0.0 (u / 2 ^ entry.2 % 2 ^ bits_of entry.1)) (state-push entries x wd n u h.1)
    ∙ apart (state_of entries u) x.0 entry.0.0 (u / 2 ^ n % 2 ^ bits_of wd) (u / 2 ^ entry.2 % 2 ^ bits_of entry.1) h.0

-- dropped again
pub value_dropped : (s : Values) (x v : ℕ) → with_value (with_value s x v) x (s x) ≡ s
value_dropped s x v = fun_ext (λ y. at y (y == x) refl)
  where
    at : (y : ℕ) (b : Bool) → (y == x) ≡ b → cond b (s x) (cond b v (s y)) ≡ s y
    at y true e = ap s (sym (eqb-true y x e))
    at y false e = refl

-- ---- an assignment with another value in some bits
abbrev pub placed : ℕ → ℕ → ℕ → ℕ → ℕ
placed n b v x = ((x / 2 ^ (n + b) * 2 ^ b + v) * 2 ^ n + x % 2 ^ n) % 2 ^ 64

module _ (n b v x : ℕ) (within : n + b ≤ 64) (few : v < 2 ^ b) where
  pub placed_lt : placed n b v x < 2 ^ 64
  placed_lt = mod-lt _ (pow_pos 64)

  low : (k : ℕ) → k < 64 → k < n → bit_at (placed n b v x) k ≡ bit_at x k
  low k h l = low_bit _ 64 k h ∙ bit_at_cat_low (x / 2 ^ (n + b) * 2 ^ b + v) n (x % 2 ^ n) k l ∙ low_bit x n k l

  high : (k : ℕ) → k < 64 → n ≤ k → bit_at (placed n b v x) k ≡ bit_at (x / 2 ^ (n + b) * 2 ^ b + v) (k - n)
  high k h l = low_bit _ 64 k h ∙ bit_at_cat_high (x / 2 ^ (n + b) * 2 ^ b + v) n (x % 2 ^ n) k (mod-lt x (pow_pos n)) l

  above : (k : ℕ) → k < 64 → n + b ≤ k → bit_at (placed n b v x) k ≡ bit_at x k
  above k h l =
      high k h (omega (arith, l)) ∙ bit_at_cat_high (x / 2 ^ (n + b)) b v (k - n) few (omega (arith, l)) ∙ higher_bit x (n + b) (k - n - b) ∙ ap (bit_at x) (back k l)
    where
      back : (k : ℕ) → n + b ≤ k → n + b + (k - n - b) ≡ k
      back k l = omega (arith, l)

  pub placed_agrees : AgreeOutside n (n + b) x (placed n b v x)
  placed_agrees k h (inl l) = sym (low k h l)
  placed_agrees k h (inr l) = sym (above k h l)

  pub placed_value : placed n b v x / 2 ^ n % 2 ^ b ≡ v
  placed_value = same_from_bits_below b _ _ (mod-lt _ (pow_pos b)) few (λ i h.
      low_bit (placed n b v x / 2 ^ n) b i h ∙ higher_bit (placed n b v x) n i
      ∙ high (n + i) (omega (arith, within, h)) (omega arith) ∙ ap (bit_at (x / 2 ^ (n + b) * 2 ^ b + v)) (back i) ∙ bit_at_cat_low (x / 2 ^ (n + b)) b v i h)
    where
      back : (i : ℕ) → n + i - n ≡ i
      back i = omega arith
