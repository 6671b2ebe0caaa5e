-- A weight that falls from a process to its parts: the measure of each recursion over processes.
use Rattle.std.proofs.Common.{◌≡◌, ℕ, zero, suc, ◌+◌, ◌<◌, List, [], ◌∷◌, length, get_or, ap, arith}
use Rattle.occ_syntax.specs.declared.expr.Expr.{Expr}
use Rattle.occ_syntax.specs.declared.expr.Guard.{Guard}
use Rattle.occ_syntax.specs.declared.proc.Proc.{Proc}
use Rattle.occ_syntax.specs.Tree.{Tree, skip, stop, assign, receive, send, seq, par, select, alt, declare, connect, Trees, no_tree, and_tree, Cases, no_case, and_case, Branches, no_branch, and_branch}
use Rattle.occ_syntax.specs.View.{tree, trees, cases, branches}

unfoldable mutual
  pub weight : Tree → ℕ
  weight skip = 1
  weight stop = 1
  weight (assign xs es) = 1
  weight (receive c x) = 1
  weight (send c e) = 1
  weight (seq ps) = 1 + weight_of_all ps
  weight (par ps) = 1 + weight_of_all ps
  weight (select cs) = 1 + weight_of_cases cs
  weight (alt bs) = 1 + weight_of_branches bs
  weight (declare x w p) = 1 + weight p
  weight (connect c w p) = 1 + weight p

  pub weight_of_all : Trees → ℕ
  weight_of_all no_tree = 0
  weight_of_all (and_tree p ps) = 1 + weight p + weight_of_all ps

  pub weight_of_cases : Cases → ℕ
  weight_of_cases no_case = 0
  weight_of_cases (and_case e p cs) = 1 + weight p + weight_of_cases cs

  pub weight_of_branches : Branches → ℕ
  weight_of_branches no_branch = 0
  weight_of_branches (and_branch e w p bs) = 1 + weight p + weight_of_branches bs

pub weight-seq : (p : Tree) (ps : Trees) → p ≡ seq ps → weight p ≡ 1 + weight_of_all ps
unfolding weight
weight-seq p ps e = ap weight e

pub weight-par : (p : Tree) (ps : Trees) → p ≡ par ps → weight p ≡ 1 + weight_of_all ps
unfolding weight
weight-par p ps e = ap weight e

pub weight-select : (p : Tree) (cs : Cases) → p ≡ select cs → weight p ≡ 1 + weight_of_cases cs
unfolding weight
weight-select p cs e = ap weight e

pub weight-alt : (p : Tree) (bs : Branches) → p ≡ alt bs → weight p ≡ 1 + weight_of_branches bs
unfolding weight
weight-alt p bs e = ap weight e

pub weight_in_all : (ps : List Proc) (i : ℕ) (p : Proc) → i < length ps → p ≡ get_or ps i p → weight (tree p) < weight_of_all (trees ps)
unfolding weight weight_of_all
weight_in_all [] i p h e = absurd (omega (arith, h))
weight_in_all (q ∷ ps) zero p h e =
    let f : weight (tree p) ≡ weight (tree q) = ap (λ r. weight (tree r)) e in
    omega arith
weight_in_all (q ∷ ps) (suc i) p h e =
    let k : weight (tree p) < weight_of_all (trees ps) = weight_in_all ps i p (omega arith) e in
    omega arith

pub weight_in_cases : (cs : List (Expr × Proc)) (i : ℕ) (d : Expr × Proc) → i < length cs → d ≡ get_or cs i d → weight (tree d.1) < weight_of_cases (cases cs)
unfolding weight weight_of_cases
weight_in_cases [] i p h e = absurd (omega (arith, h))
weight_in_cases (q ∷ cs) zero p h e =
    let f : weight (tree p.1) ≡ weight (tree q.1) = ap (λ (r : Expr × Proc). weight (tree r.1)) e in
    omega arith
weight_in_cases (q ∷ cs) (suc i) p h e =
    let k : weight (tree p.1) < weight_of_cases (cases cs) = weight_in_cases cs i p (omega arith) e in
    omega arith

pub weight_in_branches : (bs : List (Guard × Proc)) (i : ℕ) (d : Guard × Proc) → i < length bs → d ≡ get_or bs i d → weight (tree d.1) < weight_of_branches (branches bs)
unfolding weight weight_of_branches
weight_in_branches [] i p h e = absurd (omega (arith, h))
weight_in_branches (q ∷ bs) zero p h e =
    let f : weight (tree p.1) ≡ weight (tree q.1) = ap (λ (r : Guard × Proc). weight (tree r.1)) e in
    omega arith
weight_in_branches (q ∷ bs) (suc i) p h e =
    let k : weight (tree p.1) < weight_of_branches (branches bs) = weight_in_branches bs i p (omega arith) e in
    omega arith
