-- A list of branches that lacks one branch of another list, and the branches that references show.
use Rattle.std.specs.Prelude.{ℕ, ◌<◌, Bool, true, false, List, length, map, Option, None, Some}
use Rattle.std.specs.List.{remove}
use Rattle.std.specs.Borrow.{Bor}
use Rattle.occ_syntax.specs.declared.expr.Guard.{Guard}
use Rattle.occ_syntax.specs.declared.proc.Proc.{Proc}
use Rattle.occ_syntax.specs.Tree.{Exp, Waiting, Tree, Branches, and_branch}
use Rattle.occ_syntax.specs.View.{exp, waiting, tree, branches}

-- the second list is the first one without one branch of that condition, wait and process
pub data Lacks (b : Exp) (w : Waiting) (p : Tree) : Branches → Branches → Type 0 where
  lacks_first : {gs : Branches} → Lacks b w p (and_branch b w p gs) gs
  lacks_later : {c : Exp} {v : Waiting} {q : Tree} {gs hs : Branches} → Lacks b w p gs hs → Lacks b w p (and_branch c v q gs) (and_branch c v q hs)

-- the same, of a branch as code sees it
abbrev pub LacksBranch : Guard × Proc → Branches → Branches → Type 0
LacksBranch branch gs hs = Lacks (exp branch.0.condition) (waiting branch.0.wait) (tree branch.1) gs hs

-- the branch that the second list lacks; or it isn't the first list without one branch
abbrev pub IsLacking : Branches → Branches → Option (Bor (Guard × Proc)) → Type 0
IsLacking gs hs None = (b : Exp) (w : Waiting) (p : Tree) → Lacks b w p gs hs → ⊥
IsLacking gs hs (Some found) = LacksBranch found.now gs hs

-- the branches behind references
abbrev pub shown : List (Bor (Guard × Proc)) → Branches
shown list = branches (map (λ branch. branch.now) list)

-- the place of a branch that is equal to this one; or there is none
abbrev pub IsPlaceOf : Guard × Proc → List (Bor (Guard × Proc)) → Option ℕ → Type 0
IsPlaceOf branch list None = (hs : Branches) → LacksBranch branch (shown list) hs → ⊥
IsPlaceOf branch list (Some place) = (place < length list) × LacksBranch branch (shown list) (shown (remove list place))

-- the second list lacks one such branch; or the first list has none
abbrev pub IsCancelled : Guard × Proc → Branches → Branches → Bool → Type 0
IsCancelled branch gs hs true = LacksBranch branch gs hs
IsCancelled branch gs hs false = (ks : Branches) → LacksBranch branch gs ks → ⊥
