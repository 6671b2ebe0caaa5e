-- Lists of parts, of choices and of branches that grow at their end.
use Rattle.std.proofs.Common.{◌≡◌, List, [], ◌∷◌, ◌++◌, refl, ap, sym, ◌∙◌}
use Rattle.occ_syntax.specs.declared.expr.Expr.{Expr}
use Rattle.occ_syntax.specs.declared.expr.Guard.{Guard}
use Rattle.occ_syntax.specs.declared.proc.Proc.{Proc, Skip}
use Rattle.occ_syntax.specs.Tree.{Exp, Waiting, Tree, skip, seq, par, Trees, no_tree, and_tree, Cases, no_case, and_case, Branches, no_branch, and_branch}
use Rattle.occ_syntax.specs.View.{branches, cases, exp, tree, waiting}
use Rattle.occ_law_shape.specs.occ_meaning.Parallel.{all_of, two}
use Rattle.occ_law_shape.specs.occ_law.Lists.{all_branches, all_cases}
use Rattle.occ_law_shape.specs.occ_law.Parallel.{each_case_beside, first_goes, meetings, second_goes}
use Rattle.occ_law_par.specs.Made.{IsPut}

-- ---- parts

all_of-all : (ps qs rs : Trees) → all_of (all_of ps qs) rs ≡ all_of ps (all_of qs rs)
all_of-all no_tree qs rs = refl
all_of-all (and_tree p ps) qs rs = ap (and_tree p) (all_of-all ps qs rs)

-- ---- choices

-- one more choice beside a process
pub choices_step : (xs ys : List (Expr × Proc)) (x : Expr × Proc) (b : Exp) (p q : Tree) (all now rest : Cases) → ys ≡ xs ++ x ∷ [] → exp x.0 ≡ b → tree x.1 ≡ par (two p q)
    → now ≡ and_case b p rest → all_cases (cases xs) (each_case_beside now q) ≡ each_case_beside all q → all_cases (cases ys) (each_case_beside rest q) ≡ each_case_beside all q
choices_step xs ys x b p q all now rest e f g h so_far =
    ap (λ z. all_cases (cases z) (each_case_beside rest q)) e ∙ at_end xs ∙ ap (λ z. all_cases (cases xs) (and_case z (tree x.1) (each_case_beside rest q))) f
    ∙ ap (λ z. all_cases (cases xs) (and_case b z (each_case_beside rest q))) g ∙ ap (λ z. all_cases (cases xs) (each_case_beside z q)) (sym h) ∙ so_far
  where
    at_end : (list : List (Expr × Proc)) → all_cases (cases (list ++ x ∷ [])) (each_case_beside rest q) ≡ all_cases (cases list) (and_case (exp x.0) (tree x.1) (each_case_beside rest q))
    at_end [] = refl
    at_end (y ∷ ys) = ap (and_case (exp y.0) (tree y.1)) (at_end ys)

pub choices_whole : (made all rest : Cases) (q : Tree) → rest ≡ no_case → all_cases made (each_case_beside rest q) ≡ each_case_beside all q → made ≡ each_case_beside all q
choices_whole made all rest q e so_far = sym (nothing made) ∙ ap (λ z. all_cases made (each_case_beside z q)) (sym e) ∙ so_far
  where
    nothing : (cs : Cases) → all_cases cs no_case ≡ cs
    nothing no_case = refl
    nothing (and_case b p cs) = ap (and_case b p) (nothing cs)

-- a PAR of copies
pub beside_is : (whole p q r s : Tree) → whole ≡ par (two p q) → p ≡ r → q ≡ s → whole ≡ par (two r s)
beside_is whole p q r s e f g = e ∙ ap (λ z. par (two z q)) f ∙ ap (λ z. par (two r z)) g

-- what is made of copies behind an assignment
pub assigned_made : (whole a later rest s b q : Tree) (ps : Trees) → whole ≡ seq (two a later) → later ≡ par (two rest s) → rest ≡ seq ps → s ≡ q → a ≡ b
    → whole ≡ seq (two b (par (two (seq ps) q)))
assigned_made whole a later rest s b q ps e f g h k =
    e ∙ ap (λ z. seq (two z later)) k ∙ ap (λ z. seq (two b z)) (beside_is later rest s (seq ps) q f g h)

-- ---- branches

-- nothing behind a list
all_branches-none : (gs : Branches) → all_branches gs no_branch ≡ gs
all_branches-none no_branch = refl
all_branches-none (and_branch b w p gs) = ap (and_branch b w p) (all_branches-none gs)

-- one branch at the end
pub put_last : (before after : List (Guard × Proc)) (g : Guard) (p : Proc) → after ≡ before ++ (g, p) ∷ []
    → IsPut (and_branch (exp g.condition) (waiting g.wait) (tree p)) (branches before) (branches after)
put_last before after g p e rest = ap (λ z. all_branches (branches z) rest) e ∙ at_end before
  where
    at_end : (list : List (Guard × Proc)) → all_branches (branches (list ++ (g, p) ∷ [])) rest ≡ all_branches (branches list) (and_branch (exp g.condition) (waiting g.wait) (tree p) rest)
    at_end [] = refl
    at_end (x ∷ xs) = ap (and_branch (exp x.0.condition) (waiting x.0.wait) (tree x.1)) (at_end xs)

-- a branch that is put there in other words
pub put_as : (before after : Branches) (b c : Exp) (v w : Waiting) (p q : Tree) → b ≡ c → v ≡ w → p ≡ q → IsPut (and_branch b v p) before after → IsPut (and_branch c w q) before after
put_as before after b c v w p q e f g put rest =
    put rest ∙ ap (λ z. all_branches before (and_branch z v p rest)) e ∙ ap (λ z. all_branches before (and_branch c z p rest)) f ∙ ap (λ z. all_branches before (and_branch c w z rest)) g

-- the three stretches of the right side of par-expand, one behind the other
pub expansion : (f s : Tree) (fs ss none firsts seconds whole : Branches) → none ≡ no_branch → IsPut (all_branches (first_goes fs s)) none firsts
    → IsPut (all_branches (second_goes f ss)) firsts seconds → whole ≡ all_branches seconds (meetings fs ss)
    → whole ≡ all_branches (first_goes fs s) (all_branches (second_goes f ss) (meetings fs ss))
expansion f s fs ss none firsts seconds whole e first second last =
    last ∙ second (meetings fs ss) ∙ first (all_branches (second_goes f ss) (meetings fs ss))
    ∙ ap (λ z. all_branches z (all_branches (first_goes fs s) (all_branches (second_goes f ss) (meetings fs ss)))) e

-- SKIP as a tree
pub skip_is : tree Skip ≡ skip
unfolding tree
skip_is = refl

-- three lists of parts, one behind the other
pub parts_of_three : (first second third none before inner behind : Trees) → none ≡ no_tree → first ≡ all_of none before → second ≡ all_of first inner
    → third ≡ all_of second behind → third ≡ all_of before (all_of inner behind)
parts_of_three first second third none before inner behind e f g h =
    h ∙ ap (λ z. all_of z behind) (g ∙ ap (λ z. all_of z inner) (f ∙ ap (λ z. all_of z before) e)) ∙ all_of-all before inner behind

-- an empty list has no branches
pub none_made : (list : List (Guard × Proc)) → list ≡ [] → branches list ≡ no_branch
none_made list e = ap branches e

-- where no branch is left, all meetings are there
pub meetings_whole : (made before rest ss all : Branches) → rest ≡ no_branch → all_branches made (meetings rest ss) ≡ all_branches before all → made ≡ all_branches before all
meetings_whole made before rest ss all e so_far = sym (all_branches-none made) ∙ ap (λ z. all_branches made (meetings z ss)) (sym e) ∙ so_far
