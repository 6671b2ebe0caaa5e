-- An expression depends on the names that it names alone; conditions are 0 or 1.
-- ---- environments and values that agree on the names of an expression
use Rattle.occ_syntax.specs.occ_base.Width.{bits_of}
use Rattle.occ_syntax.specs.occ_base.declared.width.Width.TheVariants.{Bool as TruthValue}
use Rattle.occ_meaning.proofs.Facts.{at_itself}
use Rattle.occ_meaning.proofs.Typing.{condition_type, eval_below}
use Rattle.occ_meaning.specs.Foundation.{AgreeOn, ValuesAgreeOn}
use Rattle.occ_syntax.specs.Eval.{applied, bits_in, bits_of_exp, eval, is_true, keeps_width, one_if}
use Rattle.occ_syntax.specs.Names.{names}
use Rattle.occ_syntax.specs.Scopes.{Environment, IsState, Values}
use Rattle.occ_syntax.specs.Tree.{Exp, complement, negation, numeral, operation, truth, variable}
use Rattle.occ_syntax.specs.Types.{is_condition}
use Rattle.occ_syntax.specs.declared.expr.Op.TheVariants.{And, Or}
use Rattle.std.proofs.Common.{Bool, ap, arith, bit_and, bit_or, false, if◌then◌else◌, inl, inr, not, refl, sym, true, ℕ, ◌&&◌, ◌-◌, ◌<◌, ◌==◌, ◌^◌, ◌||◌, ◌∙◌, ◌≡◌, ◌≢◌}
use Rattle.std.proofs.lemmas.Bool.{or_left, or_right}
use Rattle.std.proofs.lemmas.Bool.Decides.{eqb_tells}
use Rattle.std.proofs.lemmas.Nat.{pow_pos}

pub bits_by_names : (Γ Δ : Environment) (e : Exp) → AgreeOn e Γ Δ → bits_of_exp Γ e ≡ bits_of_exp Δ e
bits_by_names Γ Δ (variable x) h = ap bits_in (h x (at_itself x))
bits_by_names Γ Δ (numeral bits value) h = refl
bits_by_names Γ Δ (truth b) h = refl
bits_by_names Γ Δ (negation e) h = refl
bits_by_names Γ Δ (complement e) h = bits_by_names Γ Δ e h
bits_by_names Γ Δ (operation op left right) h = ap (λ n. if keeps_width op then n else 1) (bits_by_names Γ Δ left (λ x k. h x (or_left (names left x) (names right x) k)))

pub eval_by_names : (Γ Δ : Environment) (s r : Values) (e : Exp) → AgreeOn e Γ Δ → ValuesAgreeOn e s r → eval Γ e s ≡ eval Δ e r
eval_by_names Γ Δ s r (variable x) h k = k x (at_itself x)
eval_by_names Γ Δ s r (numeral bits value) h k = refl
eval_by_names Γ Δ s r (truth b) h k = refl
eval_by_names Γ Δ s r (negation e) h k = ap (λ n. 1 - n) (eval_by_names Γ Δ s r e h k)
eval_by_names Γ Δ s r (complement e) h k = ap (λ n. 2 ^ n - 1 - eval Γ e s) (bits_by_names Γ Δ e h) ∙ ap (λ n. 2 ^ bits_of_exp Δ e - 1 - n) (eval_by_names Γ Δ s r e h k)
eval_by_names Γ Δ s r (operation op left right) h k =
    let hl : AgreeOn left Γ Δ = λ x i. h x (or_left (names left x) (names right x) i) in
    let hr : AgreeOn right Γ Δ = λ x i. h x (or_right (names left x) (names right x) i) in
    ap (λ n. applied op n (eval Γ left s) (eval Γ right s)) (bits_by_names Γ Δ left hl)
    ∙ (ap (λ n. applied op (bits_of_exp Δ left) n (eval Γ right s)) (eval_by_names Γ Δ s r left hl (λ x i. k x (or_left (names left x) (names right x) i)))
    ∙ ap (λ n. applied op (bits_of_exp Δ left) (eval Δ left r) n) (eval_by_names Γ Δ s r right hr (λ x i. k x (or_right (names left x) (names right x) i))))

-- ---- states

pub zeros_state : (Γ : Environment) → IsState Γ (λ x. 0)
zeros_state Γ x w h = pow_pos (bits_of w)

-- ---- conditions

pub condition_bit : (Γ : Environment) (s : Values) → IsState Γ s → (e : Exp) → is_condition Γ e ≡ true → eval Γ e s ≡ one_if (is_true Γ e s)
condition_bit Γ s state e h = of_bit (eval Γ e s) (eval_below Γ s state e TruthValue (condition_type Γ e h))
  where
    of_bit : (n : ℕ) → n < 2 ^ 1 → n ≡ one_if (n == 1)
    of_bit n lt = elim (eqb_tells n 1) [
      | inl k ↦ k.1 ∙ ap one_if (sym k.0)
      | inr k ↦ (let ne : n ≢ 1 = k.1 in let z : n ≡ 0 = omega arith in z ∙ ap one_if (sym k.0))
    ]

pub not_condition : (Γ : Environment) (s : Values) → IsState Γ s → (e : Exp) → is_condition Γ e ≡ true
    → is_true Γ (negation e) s ≡ not (is_true Γ e s)
not_condition Γ s state e h = ap (λ n. (1 - n) == 1) (condition_bit Γ s state e h) ∙ turned (is_true Γ e s)
  where
    turned : (b : Bool) → ((1 - one_if b) == 1) ≡ not b
    turned true = refl
    turned false = refl

pub and_condition : (Γ : Environment) (s : Values) → IsState Γ s → (e f : Exp) → is_condition Γ e ≡ true → is_condition Γ f ≡ true
    → is_true Γ (operation And e f) s ≡ (is_true Γ e s && is_true Γ f s)
and_condition Γ s state e f he hf =
    ap (λ n. bit_and n (eval Γ f s) == 1) (condition_bit Γ s state e he) ∙ (ap (λ n. bit_and (one_if (is_true Γ e s)) n == 1) (condition_bit Γ s state f hf) ∙ both_bits (is_true Γ e s) (is_true Γ f s))
  where
    both_bits : (b c : Bool) → (bit_and (one_if b) (one_if c) == 1) ≡ (b && c)
    both_bits true true = refl
    both_bits true false = refl
    both_bits false true = refl
    both_bits false false = refl

pub or_condition : (Γ : Environment) (s : Values) → IsState Γ s → (e f : Exp) → is_condition Γ e ≡ true → is_condition Γ f ≡ true
    → is_true Γ (operation Or e f) s ≡ (is_true Γ e s || is_true Γ f s)
or_condition Γ s state e f he hf =
    ap (λ n. bit_or n (eval Γ f s) == 1) (condition_bit Γ s state e he) ∙ (ap (λ n. bit_or (one_if (is_true Γ e s)) n == 1) (condition_bit Γ s state f hf) ∙ some_bit (is_true Γ e s) (is_true Γ f s))
  where
    some_bit : (b c : Bool) → (bit_or (one_if b) (one_if c) == 1) ≡ (b || c)
    some_bit true true = refl
    some_bit true false = refl
    some_bit false true = refl
    some_bit false false = refl
