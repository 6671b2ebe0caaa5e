-- A place in a list of branches: what is put in front of it, piece by piece.
use Rattle.std.proofs.Common.{◌≡◌, ◌↔◌, Bool, IsTrue, true, false, List, length, if◌then◌else◌, ◌==◌, refl, ap, sym, ◌∙◌, subst}
use Rattle.occ_syntax.specs.declared.expr.Guard.{Guard}
use Rattle.occ_syntax.specs.declared.proc.Proc.{Proc}
use Rattle.occ_syntax.specs.declared.expr.Op.TheVariants.{And}
use Rattle.occ_syntax.specs.Tree.{Exp, operation, Waiting, ready, input, output, Tree, Branches, no_branch, and_branch}
use Rattle.occ_syntax.specs.View.{branches}
use Rattle.occ_law_shape.specs.occ_law.Lists.{all_branches}
use Rattle.occ_law_shape.specs.occ_law.Parallel.{both_go, meeting, meetings, meetings_of}
use Rattle.occ_law_shape.proofs.Fronts.{branches_whole}

-- one more piece: `step` puts it in front, and `after` puts in front what is left then
pub rest_step : {P : Branches → Type 0} (step before after : Branches → Branches) (all found : Branches) → ((a b : Branches) → step a ≡ step b → a ≡ b)
    → ((r : Branches) → before r ≡ step (after r)) → all ≡ step found → ((r : Branches) → (all ≡ before r) ↔ P r) → (r : Branches) → (found ≡ after r) ↔ P r
rest_step step before after all found once e f so_far r = (
  (λ h. (so_far r).0 (f ∙ ap step h ∙ sym (e r))),
  (λ k. once found (after r) (sym f ∙ (so_far r).1 k ∙ e r)),
)

-- what stands behind a branch is one list
pub branch_once : (b : Exp) (w : Waiting) (p : Tree) (r s : Branches) → and_branch b w p r ≡ and_branch b w p s → r ≡ s
branch_once b w p r s e = cc

-- what stands behind the branch in which two meet, or behind none, is one list
pub meeting_once : (b : Exp) (v : Waiting) (p : Tree) (c : Exp) (w : Waiting) (q : Tree) (r s : Branches) → meeting b v p c w q r ≡ meeting b v p c w q s → r ≡ s
meeting_once b (output i e) p c (input j x) q r s k = chosen (i == j) (operation And b c) (both_go x e p q) r s k
  where
    chosen : (t : Bool) (b : Exp) (p : Tree) (r s : Branches) → (if t then and_branch b ready p r else r) ≡ (if t then and_branch b ready p s else s) → r ≡ s
    chosen true b p r s k = cc
    chosen false b p r s k = k
meeting_once b (input j x) p c (output i e) q r s k = chosen (j == i) (operation And b c) (both_go x e p q) r s k
  where
    chosen : (t : Bool) (b : Exp) (p : Tree) (r s : Branches) → (if t then and_branch b ready p r else r) ≡ (if t then and_branch b ready p s else s) → r ≡ s
    chosen true b p r s k = cc
    chosen false b p r s k = k
meeting_once b (output i e) p c (output j f) q r s k = k
meeting_once b (output i e) p c ready q r s k = k
meeting_once b (input i x) p c (input j y) q r s k = k
meeting_once b (input i x) p c ready q r s k = k
meeting_once b ready p c w q r s k = k

-- what stands behind all that one branch has with others is one list
pub meetings_once : (b : Exp) (w : Waiting) (p : Tree) (ms r s : Branches) → meetings_of b w p ms r ≡ meetings_of b w p ms s → r ≡ s
meetings_once b w p no_branch r s k = k
meetings_once b w p (and_branch c v q ms) r s k = meetings_once b w p ms r s (meeting_once b w p c v q (meetings_of b w p ms r) (meetings_of b w p ms s) k)

-- what stands behind a list of branches is one list
pub branches_once : (gs r s : Branches) → all_branches gs r ≡ all_branches gs s → r ≡ s
branches_once no_branch r s k = k
branches_once (and_branch b w p gs) r s k = branches_once gs r s (branch_once b w p (all_branches gs r) (all_branches gs s) k)

-- one branch more has met the others
pub meets_step : {Q : Type 0} (b : Exp) (w : Waiting) (p : Tree) (xs ls ms all found : Branches) → xs ≡ and_branch b w p ls → all ≡ meetings_of b w p ms found
    → ((all ≡ meetings xs ms) ↔ Q) → (found ≡ meetings ls ms) ↔ Q
meets_step {Q} b w p xs ls ms all found e f so_far =
    rest_step {P = λ r. Q} (meetings_of b w p ms) (λ r. meetings xs ms) (λ r. meetings ls ms) all found (meetings_once b w p ms) (λ r. ap (λ z. meetings z ms) e) f (λ r. so_far) no_branch

-- where no branch is left, no meeting is
pub meets_end : {Q : Type 0} (xs ms : Branches) (rest : List (Guard × Proc)) (b : Bool) → xs ≡ no_branch → ((branches rest ≡ meetings xs ms) ↔ Q) → (IsTrue b ↔ (length rest ≡ 0))
    → IsTrue b ↔ Q
meets_end {Q} xs ms rest b e so_far test =
    branches_whole (λ c. c) (λ w. w) (λ w p. p) no_branch rest b refl (subst (λ z. (branches rest ≡ meetings z ms) ↔ Q) e so_far) test
