-- The parts of lists, one by one from the end: their usage, and the list that is left.
use Rattle.std.proofs.Common.{Bool, true, ◌==◌, ◌≡◌, ◌<◌, ◌≤◌, ◌+◌, ◌-◌, ℕ, zero, suc, List, [], ◌∷◌, length, get_or, drop, refl, sym, ap, ◌∙◌, subst, arith}
use Rattle.std.proofs.lemmas.Bool.{and_parts, eqb-true}
use Rattle.std.proofs.lemmas.List.{drop_more}
use Rattle.occ_syntax.specs.declared.expr.Expr.{Expr}
use Rattle.occ_syntax.specs.declared.expr.Guard.{Guard}
use Rattle.occ_syntax.specs.declared.proc.Proc.{Proc}
use Rattle.occ_syntax.specs.declared.scope.Kind.{Kind}
use Rattle.occ_syntax.specs.declared.scope.Kind.TheVariants.{Var, Chan}
use Rattle.occ_syntax.specs.Declarations.{declaring}
use Rattle.occ_syntax.specs.Tree.{Tree, and_branch, and_tree, no_tree}
use Rattle.occ_syntax.specs.Scopes.{Environment}
use Rattle.occ_syntax.specs.Types.{all_types_kept, types_kept}
use Rattle.occ_syntax.specs.Usage.{AllKeepUsage, BranchesKeepUsage, CasesKeepUsage, KeepsUsage}
use Rattle.occ_syntax.specs.View.{branches, cases, exp, tree, trees, waiting}

pub usage_at : (ps : List Proc) (i : ℕ) (p : Proc) → AllKeepUsage (trees ps) → i < length ps → p ≡ get_or ps i p → KeepsUsage (tree p)
usage_at [] i p h k e = absurd (omega (arith, k))
usage_at (q ∷ ps) zero p h k e = subst (λ r. KeepsUsage (tree r)) (sym e) h.0
usage_at (q ∷ ps) (suc i) p h k e = usage_at ps i p h.1 (omega (arith, k)) e

pub case_usage_at : (cs : List (Expr × Proc)) (i : ℕ) (c : Expr × Proc) → CasesKeepUsage (cases cs) → i < length cs → c ≡ get_or cs i c → KeepsUsage (tree c.1)
case_usage_at [] i c h k e = absurd (omega (arith, k))
case_usage_at (d ∷ cs) zero c h k e = subst (λ (r : Expr × Proc). KeepsUsage (tree r.1)) (sym e) h.0
case_usage_at (d ∷ cs) (suc i) c h k e = case_usage_at cs i c h.1 (omega (arith, k)) e

pub branch_usage_at : (bs : List (Guard × Proc)) (i : ℕ) (b : Guard × Proc) → BranchesKeepUsage (branches bs) → i < length bs → b ≡ get_or bs i b → KeepsUsage (tree b.1)
branch_usage_at [] i b h k e = absurd (omega (arith, k))
branch_usage_at (d ∷ bs) zero b h k e = subst (λ (r : Guard × Proc). KeepsUsage (tree r.1)) (sym e) h.0
branch_usage_at (d ∷ bs) (suc i) b h k e = branch_usage_at bs i b h.1 (omega (arith, k)) e

pub usage_inside : (p q : Tree) (x : ℕ) (k : Kind) → p ≡ declaring x k q → KeepsUsage p → KeepsUsage q
usage_inside p q x (Var w) e h = subst KeepsUsage e h
usage_inside p q x (Chan w d) e h = subst KeepsUsage e h

-- ---- what is left of a list
one_back : (n : ℕ) → zero < n → n - 1 + 1 ≡ n
one_back n h = omega (arith, h)

left_here : {A : Type 0} (xs : List A) (n : ℕ) (x : A) → zero < n → n ≤ length xs → x ≡ get_or xs (n - 1) x → drop (n - 1) xs ≡ x ∷ drop n xs
left_here xs n x h k e = drop_more xs (n - 1) x (omega (arith, h, k)) ∙ (λ i. sym e i ∷ drop (one_back n h i) xs)

pub trees_left : (ps : List Proc) (n : ℕ) (p : Proc) → zero < n → n ≤ length ps → p ≡ get_or ps (n - 1) p → trees (drop (n - 1) ps) ≡ and_tree (tree p) (trees (drop n ps))
trees_left ps n p h k e = ap trees (left_here ps n p h k e)

pub branches_left : (bs : List (Guard × Proc)) (n : ℕ) (b : Guard × Proc) → zero < n → n ≤ length bs → b ≡ get_or bs (n - 1) b
    → branches (drop (n - 1) bs) ≡ and_branch (exp b.0.condition) (waiting b.0.wait) (tree b.1) (branches (drop n bs))
branches_left bs n b h k e = ap branches (left_here bs n b h k e)

pub one_tree : (ps : List Proc) (p : Proc) → length ps ≡ 1 → p ≡ get_or ps 0 p → trees ps ≡ and_tree (tree p) no_tree
one_tree [] p h e = absurd (omega (arith, h))
one_tree (q ∷ []) p h e = ap (λ r. and_tree (tree r) no_tree) (sym e)
one_tree (q ∷ r ∷ ps) p h e = absurd (omega (arith, h))

pub no_trees : (ps : List Proc) → length ps ≡ 0 → trees ps ≡ no_tree
no_trees [] h = refl
no_trees (q ∷ ps) h = absurd (omega (arith, h))

pub types_at : (ps : List Proc) (i : ℕ) (p : Proc) (Γ : Environment) → all_types_kept (trees ps) Γ ≡ true → i < length ps → p ≡ get_or ps i p → types_kept (tree p) Γ ≡ true
types_at [] i p Γ h k e = absurd (omega (arith, k))
types_at (q ∷ ps) zero p Γ h k e = ap (λ r. types_kept (tree r) Γ) e ∙ (and_parts (types_kept (tree q) Γ) (all_types_kept (trees ps) Γ) h).0
types_at (q ∷ ps) (suc i) p Γ h k e = types_at ps i p Γ (and_parts (types_kept (tree q) Γ) (all_types_kept (trees ps) Γ) h).1 (omega (arith, k)) e

-- whether a list is empty, as code asks it
pub no_parts : (ps : List Proc) {b : Bool} → b ≡ (length ps == 0) → b ≡ true → trees ps ≡ no_tree
no_parts ps e h = no_trees ps (eqb-true (length ps) 0 (sym e ∙ h))
