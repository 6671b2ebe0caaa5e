-- How what the code builds is seen: lists that grow at their end.
use Rattle.std.proofs.Common.{◌≡◌, List, [], ◌∷◌, ◌++◌, true, refl, sym, ap, ◌∙◌}
use Rattle.occ_syntax.specs.declared.expr.Expr.{Expr}
use Rattle.occ_syntax.specs.declared.expr.Guard.{Guard}
use Rattle.occ_syntax.specs.declared.proc.Proc.{Proc}
use Rattle.occ_syntax.specs.Tree.{Exp, truth, Waiting, Tree, Cases, no_case, and_case, Branches, no_branch, and_branch}
use Rattle.occ_syntax.specs.View.{exp, waiting, tree, cases, branches}
use Rattle.occ_target.specs.Rows.{choices, guarded}

-- a choice behind others
more_cases : Cases → Exp → Tree → Cases
more_cases no_case e p = and_case e p no_case
more_cases (and_case f q cs) e p = and_case f q (more_cases cs e p)

more_branches : Branches → Waiting → Tree → Branches
more_branches no_branch w p = and_branch (truth true) w p no_branch
more_branches (and_branch e v q bs) w p = and_branch e v q (more_branches bs w p)

cases_grown : (cs : List (Expr × Proc)) (c : Expr × Proc) → cases (cs ++ c ∷ []) ≡ more_cases (cases cs) (exp c.0) (tree c.1)
unfolding more_cases
cases_grown [] c = refl
cases_grown (d ∷ cs) c = ap (and_case (exp d.0) (tree d.1)) (cases_grown cs c)

choices_grown : (cs : List (Exp × Tree)) (c : Exp × Tree) → choices (cs ++ c ∷ []) ≡ more_cases (choices cs) c.0 c.1
unfolding more_cases
choices_grown [] c = refl
choices_grown (d ∷ cs) c = ap (and_case d.0 d.1) (choices_grown cs c)

branches_grown : (bs : List (Guard × Proc)) (b : Guard × Proc) → exp b.0.condition ≡ truth true → branches (bs ++ b ∷ []) ≡ more_branches (branches bs) (waiting b.0.wait) (tree b.1)
unfolding more_branches
branches_grown [] b h = ap (λ e. and_branch e (waiting b.0.wait) (tree b.1) no_branch) h
branches_grown (d ∷ bs) b h = ap (and_branch (exp d.0.condition) (waiting d.0.wait) (tree d.1)) (branches_grown bs b h)

guarded_grown : (bs : List (Waiting × Tree)) (b : Waiting × Tree) → guarded (bs ++ b ∷ []) ≡ more_branches (guarded bs) b.0 b.1
unfolding more_branches
guarded_grown [] b = refl
guarded_grown (d ∷ bs) b = ap (and_branch (truth true) d.0 d.1) (guarded_grown bs b)

-- one choice more on both sides
pub one_choice : (made : List (Expr × Proc)) (list : List (Exp × Tree)) (c : Expr × Proc) (d : Exp × Tree) → cases made ≡ choices list → exp c.0 ≡ d.0 → tree c.1 ≡ d.1
    → cases (made ++ c ∷ []) ≡ choices (list ++ d ∷ [])
one_choice made list c d h e p = cases_grown made c ∙ ap (λ x. more_cases x (exp c.0) (tree c.1)) h ∙ ap (λ x. more_cases (choices list) x (tree c.1)) e
    ∙ ap (more_cases (choices list) d.0) p ∙ sym (choices_grown list d)

-- one branch more on both sides
pub one_branch : (made : List (Guard × Proc)) (list : List (Waiting × Tree)) (b : Guard × Proc) (d : Waiting × Tree) → branches made ≡ guarded list → exp b.0.condition ≡ truth true
    → waiting b.0.wait ≡ d.0 → tree b.1 ≡ d.1 → branches (made ++ b ∷ []) ≡ guarded (list ++ d ∷ [])
one_branch made list b d h t w p = branches_grown made b t ∙ ap (λ x. more_branches x (waiting b.0.wait) (tree b.1)) h ∙ ap (λ x. more_branches (guarded list) x (tree b.1)) w
    ∙ ap (more_branches (guarded list) d.0) p ∙ sym (guarded_grown list d)
