-- The counts over lists of parts, as sums.
use Rattle.std.proofs.Common.{◌≡◌, ◌+◌, List, [], ◌∷◌, refl, ap, sym, ◌∙◌}
use Rattle.std.specs.List.{sum_by}
use Rattle.std.proofs.lemmas.List.Sums.{sum_by-cons}
use Rattle.occ_syntax.specs.declared.expr.Expr.{Expr}
use Rattle.occ_syntax.specs.declared.expr.Guard.{Guard}
use Rattle.occ_syntax.specs.declared.proc.Proc.{Proc}
use Rattle.occ_syntax.specs.View.{tree, trees, cases, branches}
use Rattle.occ_syntax.specs.Counts.{controls, controls_of_all, controls_of_cases, controls_of_branches}

pub sum_of_all : (ps : List Proc) → controls_of_all (trees ps) ≡ sum_by (λ p. controls (tree p)) ps
sum_of_all [] = refl
sum_of_all (p ∷ ps) = ap (λ n. controls (tree p) + n) (sum_of_all ps) ∙ sym (sum_by-cons (λ p. controls (tree p)) p ps)

pub sum_of_cases : (cs : List (Expr × Proc)) → controls_of_cases (cases cs) ≡ sum_by (λ (c : Expr × Proc). 1 + controls (tree c.1)) cs
sum_of_cases [] = refl
sum_of_cases (c ∷ cs) = ap (λ n. 1 + controls (tree c.1) + n) (sum_of_cases cs) ∙ sym (sum_by-cons (λ (c : Expr × Proc). 1 + controls (tree c.1)) c cs)

pub sum_of_branches : (bs : List (Guard × Proc)) → controls_of_branches (branches bs) ≡ sum_by (λ (b : Guard × Proc). 1 + controls (tree b.1)) bs
sum_of_branches [] = refl
sum_of_branches (b ∷ bs) = ap (λ n. 1 + controls (tree b.1) + n) (sum_of_branches bs) ∙ sym (sum_by-cons (λ (b : Guard × Proc). 1 + controls (tree b.1)) b bs)
