-- Branches that stand in another order.
use Rattle.std.proofs.Common.{◌<◌, ℕ, zero, suc, List, [], ◌∷◌, length, get_or, set, arith, subst}
use Rattle.std.proofs.lemmas.List.{get_or_default}
use Rattle.std.proofs.lemmas.List.Sorted.{IsPermutation-keeps}
use Rattle.std.specs.List.{swap}
use Rattle.std.specs.List.Sorted.{IsPermutation}
use Rattle.occ_renamed.specs.occ_law.Lists.{BranchesReordered, behind_branch, branches_in_steps, same_branches, two_branches}
use Rattle.occ_renamed.specs.occ_syntax.declared.expr.Guard.{Guard}
use Rattle.occ_renamed.specs.occ_syntax.declared.proc.Proc.{Proc}
use Rattle.occ_renamed.specs.occ_syntax.View.{branches}

abbrev Reordered : List (Guard × Proc) → List (Guard × Proc) → Type 0
Reordered l m = BranchesReordered (branches l) (branches m)

-- the first branch and another one in each other's place
first_swapped : (l : List (Guard × Proc)) (j : ℕ) (x : Guard × Proc) → j < length l → Reordered (x ∷ l) (get_or l j x ∷ set l j x)
first_swapped [] j x h = absurd (omega arith)
first_swapped (y ∷ l) zero x h = two_branches
first_swapped (y ∷ l) (suc j) x h =
    let rest : j < length l = omega arith in
    branches_in_steps two_branches (branches_in_steps (behind_branch (first_swapped l j x rest)) two_branches)

first_swapped_at : (l : List (Guard × Proc)) (j : ℕ) (x d : Guard × Proc) → j < length l → Reordered (x ∷ l) (get_or l j d ∷ set l j x)
first_swapped_at l j x d h = subst (λ y. Reordered (x ∷ l) (y ∷ set l j x)) (get_or_default l j x d h) (first_swapped l j x h)

swapped : (l : List (Guard × Proc)) (i j : ℕ) (d : Guard × Proc) → i < length l → j < length l
    → Reordered l (set (set l i (get_or l j d)) j (get_or l i d))
swapped [] i j d h k = absurd (omega arith)
swapped (x ∷ l) zero zero d h k = same_branches
swapped (x ∷ l) zero (suc j) d h k = let rest : j < length l = omega arith in first_swapped_at l j x d rest
swapped (x ∷ l) (suc i) zero d h k = let rest : i < length l = omega arith in first_swapped_at l i x d rest
swapped (x ∷ l) (suc i) (suc j) d h k =
    let first : i < length l = omega arith in
    let second : j < length l = omega arith in
    behind_branch (swapped l i j d first second)

one_swap : (whole l : List (Guard × Proc)) (i j : ℕ) → i < length l → j < length l → Reordered whole l → Reordered whole (swap l i j)
one_swap whole [] i j h k r = absurd (omega arith)
one_swap whole (x ∷ l) i j h k r = branches_in_steps r (swapped (x ∷ l) i j x h k)

pub permuted : (l m : List (Guard × Proc)) → IsPermutation l m → BranchesReordered (branches l) (branches m)
permuted l m moved = IsPermutation-keeps l (Reordered l) same_branches (λ k i j h g r. one_swap l k i j h g r) m moved
