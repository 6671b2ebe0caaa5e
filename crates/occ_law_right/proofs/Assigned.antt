-- Assignments of the pairs that are left, and how many values a width has.
use Rattle.std.proofs.Common.{◌≡◌, ℕ, ◌^◌, ◌<◌, ◌≤◌, arith, true, List, [], ◌∷◌, length, refl, ap, ◌∙◌}
use Rattle.std.proofs.lemmas.Bool.{and_parts, leb-true}
use Rattle.std.proofs.Math.Nat.{pow-le-pow_right}
use Rattle.std.specs.Prelude.{nat_le}
use Rattle.occ_syntax.specs.occ_base.declared.names.Name.{Name}
use Rattle.occ_syntax.specs.occ_base.declared.width.Width.{Width}
use Rattle.occ_syntax.specs.occ_base.declared.width.Width.TheVariants.{Bool as TruthValue, Word}
use Rattle.occ_syntax.specs.occ_base.Width.{bits_of}
use Rattle.occ_law_seq.specs.occ_law.Lists.{assignment}
use Rattle.occ_syntax.specs.declared.expr.Expr.{Expr}
use Rattle.occ_syntax.specs.Tree.{Exp, assign, skip}
use Rattle.occ_syntax.specs.Types.{is_width}
use Rattle.occ_syntax.specs.View.{exps, numbers}

-- no pair is left
pub assigned_none : (xs : List ℕ) (es : List Exp) (ks : List Name) → length ks ≡ 0 → numbers ks ≡ xs → skip ≡ assignment xs es
assigned_none xs es [] h e = ap (λ l. assignment l es) e
assigned_none xs es (k ∷ ks) h e = absurd (omega (arith, h))

-- some pair is left
pub assigned_some : (xs : List ℕ) (es : List Exp) (ks : List Name) (fs : List Expr) → (length ks ≡ 0 → ⊥) → numbers ks ≡ xs → exps fs ≡ es
    → assign (numbers ks) (exps fs) ≡ assignment xs es
assigned_some xs es [] fs h e g = absurd (h refl)
assigned_some xs es (k ∷ ks) fs h e g = ap (assign (numbers (k ∷ ks))) g ∙ ap (λ l. assignment l es) e

-- a width has at most 256 values
pub few_values : (w : Width) → is_width w ≡ true → 2 ^ bits_of w ≤ 256
few_values TruthValue h = omega arith
few_values (Word bits) h =
    let two : 0 < 2 = omega arith in
    let most : bits ≤ 8 = leb-true bits 8 (and_parts (nat_le 1 bits) (nat_le bits 8) h).1 in
    let power : 2 ^ bits ≤ 2 ^ 8 = pow-le-pow_right two most in
    power
