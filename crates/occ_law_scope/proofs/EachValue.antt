-- The values of a width, one behind the other, and the branches that begin with them.
use Rattle.std.proofs.Common.{◌≡◌, ℕ, zero, suc, ◌+◌, ◌^◌, arith, ◌↔◌, true, List, [], ◌∷◌, refl, ap, sym, ◌∙◌}
use Rattle.occ_syntax.specs.occ_base.declared.width.Width.{Width}
use Rattle.occ_syntax.specs.occ_base.declared.width.Width.TheVariants.{Bool as TruthValue, Word}
use Rattle.occ_syntax.specs.occ_base.Width.{bits_of}
use Rattle.occ_law_shape.specs.occ_law.Scope.{VarAny, var_any, each_value, values_of, words_from}
use Rattle.occ_syntax.specs.Tree.{ready, truth, Tree, alt, declare, Branches, no_branch, and_branch}
use Rattle.occ_law_scope.proofs.Joined.{by_sides, put_right}
use Rattle.occ_law_scope.specs.Turns.{begun}
use Rattle.occ_law_scope.specs.Values.{value_at, values_from}

words_are : (bits v n : ℕ) → words_from bits v n ≡ values_from (Word bits) v n
words_are bits v zero = refl
words_are bits v (suc n) = ap (λ vs. value_at (Word bits) v ∷ vs) (words_are bits (v + 1) n)

-- the values of a width are those from 0 on
pub values_are : (w : Width) → values_of w ≡ values_from w 0 (2 ^ bits_of w)
values_are TruthValue = refl
values_are (Word bits) = words_are bits 0 (2 ^ bits)

-- one value further
pub one_further : (w : Width) (v n m : ℕ) → n ≡ m + 1 → values_from w v n ≡ value_at w v ∷ values_from w (v + 1) m
one_further w v zero m h = absurd (omega (arith, h))
one_further w v (suc n) m h =
    let e : n ≡ m = omega (arith, h) in
    ap (λ k. value_at w v ∷ values_from w (v + 1) k) e

pub none_further : (w : Width) (v n : ℕ) → n ≡ 0 → values_from w v n ≡ []
none_further w v zero h = refl
none_further w v (suc n) h = absurd (omega (arith, h))

-- ---- the branches, one by one

pub all_values : (w : Width) (n : ℕ) → n ≡ 2 ^ bits_of w → values_of w ≡ values_from w 0 n
all_values w n e = values_are w ∙ ap (values_from w 0) (sym e)

-- a branch and those behind it
pub each_more : (x : ℕ) (w : Width) (p : Tree) (v n m : ℕ) → n ≡ m + 1
    → each_value x w p (values_from w v n) ≡ and_branch (truth true) ready (declare x w (begun x (value_at w v) p)) (each_value x w p (values_from w (v + 1) m))
each_more x w p v n m h = ap (each_value x w p) (one_further w v n m h)

pub each_over : (x : ℕ) (w : Width) (p : Tree) (v n : ℕ) → n ≡ 0 → each_value x w p (values_from w v n) ≡ no_branch
each_over x w p v n h = ap (each_value x w p) (none_further w v n h)

-- the same test over all values of the width
pub of_width : (gs : Branches) (x : ℕ) (w : Width) (p : Tree) (n : ℕ) → n ≡ 2 ^ bits_of w
    → (gs ≡ each_value x w p (values_from w 0 n)) ↔ (gs ≡ each_value x w p (values_of w))
of_width gs x w p n e = ((λ h. h ∙ ap (each_value x w p) (sym (all_values w n e))), (λ h. h ∙ ap (each_value x w p) (all_values w n e)))

-- ---- the law

var_any_back : (x : ℕ) (w : Width) (p r : Tree) (place : List ℕ) → VarAny place (declare x w p) r → r ≡ alt (each_value x w p (values_of w))
var_any_back x w p r place (var_any y v q) = refl

-- var-any is an ALT of these branches
pub var_any_law : (l r p : Tree) (x : ℕ) (w : Width) (gs : Branches) → declare x w p ≡ l → alt gs ≡ r → (gs ≡ each_value x w p (values_of w)) ↔ ((place : List ℕ) × VarAny place l r)
var_any_law l r p x w gs e f =
    by_sides VarAny (declare x w p) l r e (λ h. ([], put_right VarAny [] (declare x w p) (alt (each_value x w p (values_of w))) r (sym f ∙ ap alt h) (var_any x w p)))
    (λ place k. inner gs (each_value x w p (values_of w)) (f ∙ var_any_back x w p r place k))
  where
    inner : (gs hs : Branches) → alt gs ≡ alt hs → gs ≡ hs
    inner gs hs e = cc
