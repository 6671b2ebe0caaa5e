-- Lists of branches taken apart: by their first branch, by the branches of another list, and by branches with the guard TRUE & SKIP.
use Rattle.std.specs.Prelude.{◌≡◌, true, List, Option, None, Some}
use Rattle.std.specs.Borrow.{Bor}
use Rattle.occ_syntax.specs.declared.expr.Expr.{Expr}
use Rattle.occ_syntax.specs.declared.expr.Guard.{Guard}
use Rattle.occ_syntax.specs.declared.proc.Proc.{Proc}
use Rattle.occ_syntax.specs.Tree.{Exp, truth, Tree, alt, Cases, no_case, and_case, Branches, no_branch, and_branch}
use Rattle.occ_syntax.specs.View.{exp, waiting, tree, branches}
use Rattle.occ_law_shape.specs.occ_law.Choice.{and_skip}
use Rattle.occ_law_shape.specs.occ_law.Lists.{all_branches}

-- a branch in front of others
abbrev pub in_front : Guard × Proc → Branches → Branches
in_front branch gs = and_branch (exp branch.0.condition) (waiting branch.0.wait) (tree branch.1) gs

-- two branches are equal: their conditions, what they wait for, and their processes
abbrev pub IsSameBranch : Guard × Proc → Guard × Proc → Type 0
IsSameBranch left right = (exp left.0.condition ≡ exp right.0.condition) × (waiting left.0.wait ≡ waiting right.0.wait) × (tree left.1 ≡ tree right.1)

-- the list begins with this branch, and has this rest; or it doesn't begin so
abbrev pub IsAfter : Guard × Proc → Branches → Option (Bor (List (Guard × Proc))) → Type 0
IsAfter branch gs None = (hs : Branches) → gs ≡ in_front branch hs → ⊥
IsAfter branch gs (Some found) = gs ≡ in_front branch (branches found.now)

-- the list begins with these branches, and has this rest; or it doesn't begin so
abbrev pub IsBehind : Branches → Branches → Option (Bor (List (Guard × Proc))) → Type 0
IsBehind first gs None = (hs : Branches) → gs ≡ all_branches first hs → ⊥
IsBehind first gs (Some found) = gs ≡ all_branches first (branches found.now)

-- the list begins with TRUE & SKIP and this process, and has this rest; or it doesn't begin so
abbrev pub BeginsWithSkip : Branches → Option (Bor Proc × Bor (List (Guard × Proc))) → Type 0
BeginsWithSkip gs None = (p : Tree) (hs : Branches) → gs ≡ and_skip p hs → ⊥
BeginsWithSkip gs (Some found) = gs ≡ and_skip (tree found.0.now) (branches found.1.now)

-- the list begins with TRUE & SKIP and the ALT of these branches, and has this rest; or it doesn't begin so
abbrev pub BeginsWithAlt : Branches → Option (Bor (List (Guard × Proc)) × Bor (List (Guard × Proc))) → Type 0
BeginsWithAlt gs None = (hs ks : Branches) → gs ≡ and_skip (alt hs) ks → ⊥
BeginsWithAlt gs (Some found) = gs ≡ and_skip (alt (branches found.0.now)) (branches found.1.now)

-- the list ends with TRUE & SKIP and the ALT of the second list, behind the first list; or it doesn't end so
abbrev pub EndsWithAlt : Branches → Option (Bor (List (Guard × Proc)) × Bor (List (Guard × Proc))) → Type 0
EndsWithAlt gs None = (hs ks : Branches) → gs ≡ all_branches hs (and_skip (alt ks) no_branch) → ⊥
EndsWithAlt gs (Some found) = gs ≡ all_branches (branches found.0.now) (and_skip (alt (branches found.1.now)) no_branch)

-- the list has two branches TRUE & SKIP of these processes; or it isn't so
abbrev pub IsSkipPair : Branches → Option (Bor Proc × Bor Proc) → Type 0
IsSkipPair gs None = (p q : Tree) → gs ≡ and_skip p (and_skip q no_branch) → ⊥
IsSkipPair gs (Some found) = gs ≡ and_skip (tree found.0.now) (and_skip (tree found.1.now) no_branch)

-- the process is the ALT of two such branches; or it isn't
abbrev pub IsChoice : Tree → Option (Bor Proc × Bor Proc) → Type 0
IsChoice t None = (p q : Tree) → t ≡ alt (and_skip p (and_skip q no_branch)) → ⊥
IsChoice t (Some found) = t ≡ alt (and_skip (tree found.0.now) (and_skip (tree found.1.now) no_branch))

-- the list has two branches TRUE & SKIP with the ALTs of these lists; or it isn't so
abbrev pub IsAltPair : Branches → Option (Bor (List (Guard × Proc)) × Bor (List (Guard × Proc))) → Type 0
IsAltPair gs None = (hs ks : Branches) → gs ≡ and_skip (alt hs) (and_skip (alt ks) no_branch) → ⊥
IsAltPair gs (Some found) = gs ≡ and_skip (alt (branches found.0.now)) (and_skip (alt (branches found.1.now)) no_branch)

-- the choices are one of this condition with the ALT of the first list, and TRUE with the ALT of the second list; or they aren't
abbrev pub IsHalved : Cases → Option (Bor Expr × Bor (List (Guard × Proc)) × Bor (List (Guard × Proc))) → Type 0
IsHalved cs None = (b : Exp) (hs ks : Branches) → cs ≡ and_case b (alt hs) (and_case (truth true) (alt ks) no_case) → ⊥
IsHalved cs (Some found) = cs ≡ and_case (exp found.0.now) (alt (branches found.1.now)) (and_case (truth true) (alt (branches found.2.now)) no_case)
