-- Lists of branches made piece by piece.
use Rattle.std.proofs.Common.{◌≡◌, ℕ, ◌+◌, ◌<◌, ◌++◌, List, [], ◌∷◌, length, get_or, take, refl, ap, sym, ◌∙◌}
use Rattle.std.proofs.lemmas.List.{take_more}
use Rattle.occ_syntax.specs.declared.expr.Guard.{Guard}
use Rattle.occ_syntax.specs.declared.proc.Proc.{Proc, Stop}
use Rattle.occ_syntax.specs.Tree.{stop, Branches, no_branch}
use Rattle.occ_syntax.specs.View.{exp, waiting, tree, branches}
use Rattle.occ_law_shape.specs.occ_law.Lists.{all_branches}
use Rattle.occ_law_alt.specs.Fronts.{in_front}
use Rattle.occ_law_alt.proofs.Begun.{all_branches-none, branch_is, branches-append}
use Rattle.occ_law_alt.proofs.Parting.{all_branches-all}

-- one branch more
pub one_added : (now new more : List (Guard × Proc)) (old : Branches) (x y : Guard × Proc) (i : ℕ) → i < length more → y ≡ get_or more i y → branches now ≡ all_branches old (branches (take i more))
    → new ≡ now ++ (x ∷ []) → exp x.0.condition ≡ exp y.0.condition → waiting x.0.wait ≡ waiting y.0.wait → tree x.1 ≡ tree y.1 → branches new ≡ all_branches old (branches (take (i + 1) more))
one_added now new more old x y i h at so_far e f g k =
    ap branches e ∙ branches-append now (x ∷ []) ∙ ap (λ z. all_branches z (in_front x no_branch)) so_far ∙ all_branches-all old (branches (take i more)) (in_front x no_branch)
    ∙ ap (λ z. all_branches old (all_branches (branches (take i more)) z)) (branch_is f g k refl)
    ∙ ap (all_branches old) (sym (branches-append (take i more) (y ∷ []))) ∙ ap (λ z. all_branches old (branches (take i more ++ z ∷ []))) at ∙ ap (λ z. all_branches old (branches z)) (sym (take_more more i y h))

-- none so far
pub none_added : (old : Branches) → old ≡ all_branches old no_branch
none_added old = sym (all_branches-none old)

-- a branch at the end of a list
pub one_pushed : (now new : List (Guard × Proc)) (x : Guard × Proc) → new ≡ now ++ (x ∷ []) → branches new ≡ all_branches (branches now) (in_front x no_branch)
one_pushed now new x e = ap branches e ∙ branches-append now (x ∷ [])

-- a branch between two lists
pub put_between : (gs rs : Branches) (now new last : List (Guard × Proc)) (x : Guard × Proc) → branches now ≡ gs → new ≡ now ++ (x ∷ []) → branches last ≡ all_branches (branches new) rs
    → branches last ≡ all_branches gs (in_front x rs)
put_between gs rs now new last x e f g =
    g ∙ ap (λ z. all_branches z rs) (one_pushed now new x f) ∙ ap (λ z. all_branches (all_branches z (in_front x no_branch)) rs) e ∙ all_branches-all gs (in_front x no_branch) rs

-- three lists, one behind the other
pub link : (gs hs rs xs ys zs : Branches) → xs ≡ gs → ys ≡ all_branches xs hs → zs ≡ all_branches ys rs → zs ≡ all_branches gs (all_branches hs rs)
link gs hs rs xs ys zs e f g = g ∙ ap (λ z. all_branches z rs) f ∙ ap (λ z. all_branches (all_branches z hs) rs) e ∙ all_branches-all gs hs rs

-- the view of STOP
pub tree-Stop : tree Stop ≡ stop
unfolding tree
tree-Stop = refl
