-- Lists of parts, choices and branches that grow at their end.
use Rattle.std.proofs.Common.{◌≡◌, List, [], ◌∷◌, ◌++◌, refl, ap, sym, ◌∙◌}
use Rattle.occ_syntax.specs.declared.expr.Expr.{Expr}
use Rattle.occ_syntax.specs.declared.expr.Guard.{Guard}
use Rattle.occ_syntax.specs.declared.proc.Proc.{Proc}
use Rattle.occ_syntax.specs.Tree.{Exp, Waiting, Tree, Trees, no_tree, and_tree, Cases, no_case, and_case, Branches, no_branch, and_branch}
use Rattle.occ_syntax.specs.View.{branches, cases, exp, tree, trees, waiting}
use Rattle.occ_law_scope.specs.occ_meaning.Parallel.{all_of, one}
use Rattle.occ_law_seq.specs.occ_law.Lists.{all_branches, all_cases}

-- ---- parts

pub joined_again : (ps qs rs : Trees) → all_of (all_of ps qs) rs ≡ all_of ps (all_of qs rs)
joined_again no_tree qs rs = refl
joined_again (and_tree p ps) qs rs = ap (and_tree p) (joined_again ps qs rs)

at_end : (xs : List Proc) (x : Proc) → trees (xs ++ x ∷ []) ≡ all_of (trees xs) (one (tree x))
at_end [] x = refl
at_end (y ∷ xs) x = ap (and_tree (tree y)) (at_end xs x)

-- one part more
pub part_added : (before after : List Proc) (x : Proc) → after ≡ before ++ x ∷ [] → trees after ≡ all_of (trees before) (one (tree x))
part_added before after x e = ap trees e ∙ at_end before x

-- ---- choices

all_cases-none : (cs : Cases) → all_cases cs no_case ≡ cs
all_cases-none no_case = refl
all_cases-none (and_case b p cs) = ap (and_case b p) (all_cases-none cs)

cases_again : (cs ds es : Cases) → all_cases (all_cases cs ds) es ≡ all_cases cs (all_cases ds es)
cases_again no_case ds es = refl
cases_again (and_case b p cs) ds es = ap (and_case b p) (cases_again cs ds es)

pub choice_added : (before after : List (Expr × Proc)) (b : Expr) (p : Proc) → after ≡ before ++ (b, p) ∷ [] → cases after ≡ all_cases (cases before) (and_case (exp b) (tree p) no_case)
choice_added before after b p e = ap cases e ∙ last before
  where
    last : (xs : List (Expr × Proc)) → cases (xs ++ (b, p) ∷ []) ≡ all_cases (cases xs) (and_case (exp b) (tree p) no_case)
    last [] = refl
    last (y ∷ xs) = ap (and_case (exp y.0) (tree y.1)) (last xs)

-- a choice is added, and that much less is left
pub choice_step : (whole now after xs : Cases) (b c : Exp) (p q : Tree) (cs : Cases) → xs ≡ and_case b p cs → c ≡ b → q ≡ p → after ≡ all_cases now (and_case c q no_case)
    → all_cases now xs ≡ whole → all_cases after cs ≡ whole
choice_step whole now after xs b c p q cs e f g h so_far =
    ap (λ z. all_cases z cs) h ∙ cases_again now (and_case c q no_case) cs ∙ ap (λ z. all_cases now (and_case z q cs)) f ∙ ap (λ z. all_cases now (and_case b z cs)) g
    ∙ ap (all_cases now) (sym e) ∙ so_far

pub choices_done : (whole now xs : Cases) → xs ≡ no_case → all_cases now xs ≡ whole → now ≡ whole
choices_done whole now xs e so_far = sym (all_cases-none now) ∙ ap (all_cases now) (sym e) ∙ so_far

-- ---- branches

all_branches-none : (gs : Branches) → all_branches gs no_branch ≡ gs
all_branches-none no_branch = refl
all_branches-none (and_branch b w p gs) = ap (and_branch b w p) (all_branches-none gs)

branches_again : (fs gs hs : Branches) → all_branches (all_branches fs gs) hs ≡ all_branches fs (all_branches gs hs)
branches_again no_branch gs hs = refl
branches_again (and_branch b w p fs) gs hs = ap (and_branch b w p) (branches_again fs gs hs)

pub branch_added : (before after : List (Guard × Proc)) (g : Guard) (p : Proc) → after ≡ before ++ (g, p) ∷ []
    → branches after ≡ all_branches (branches before) (and_branch (exp g.condition) (waiting g.wait) (tree p) no_branch)
branch_added before after g p e = ap branches e ∙ last before
  where
    last : (xs : List (Guard × Proc)) → branches (xs ++ (g, p) ∷ []) ≡ all_branches (branches xs) (and_branch (exp g.condition) (waiting g.wait) (tree p) no_branch)
    last [] = refl
    last (y ∷ xs) = ap (and_branch (exp y.0.condition) (waiting y.0.wait) (tree y.1)) (last xs)

-- a branch is added, and that much less is left
pub branch_step : (whole now after xs : Branches) (b c : Exp) (v w : Waiting) (p q : Tree) (gs : Branches) → xs ≡ and_branch b v p gs → c ≡ b → w ≡ v → q ≡ p
    → after ≡ all_branches now (and_branch c w q no_branch) → all_branches now xs ≡ whole → all_branches after gs ≡ whole
branch_step whole now after xs b c v w p q gs e f g h k so_far =
    ap (λ z. all_branches z gs) k ∙ branches_again now (and_branch c w q no_branch) gs ∙ ap (λ z. all_branches now (and_branch z w q gs)) f
    ∙ ap (λ z. all_branches now (and_branch b z q gs)) g ∙ ap (λ z. all_branches now (and_branch b v z gs)) h ∙ ap (all_branches now) (sym e) ∙ so_far

pub branches_done : (whole now xs : Branches) → xs ≡ no_branch → all_branches now xs ≡ whole → now ≡ whole
branches_done whole now xs e so_far = sym (all_branches-none now) ∙ ap (all_branches now) (sym e) ∙ so_far
