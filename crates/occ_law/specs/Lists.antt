-- The lists that laws speak of: choices and branches in one list, how long a list is, and other orders.
use Rattle.std.specs.Prelude.{ℕ, ◌+◌, ◌==◌, List, [], ◌∷◌, if◌then◌else◌}
use Rattle.occ_bits.specs.occ_syntax.Tree.{Exp, variable, Waiting, Tree, skip, assign, Trees, no_tree, and_tree, Cases, no_case, and_case, Branches, no_branch, and_branch}

-- ---- two lists in one

abbrev pub all_cases : Cases → Cases → Cases
all_cases no_case ds = ds
all_cases (and_case b p cs) ds = and_case b p (all_cases cs ds)

abbrev pub all_branches : Branches → Branches → Branches
all_branches no_branch hs = hs
all_branches (and_branch b w p gs) hs = and_branch b w p (all_branches gs hs)

-- ---- how many there are

abbrev pub size : Trees → ℕ
size no_tree = 0
size (and_tree p ps) = 1 + size ps

abbrev pub count : Cases → ℕ
count no_case = 0
count (and_case b p cs) = 1 + count cs

abbrev pub tally : Branches → ℕ
tally no_branch = 0
tally (and_branch b w p gs) = 1 + tally gs

-- the conditions of choices
abbrev pub conditions : Cases → List Exp
conditions no_case = []
conditions (and_case b p cs) = b ∷ conditions cs

-- ---- the pairs of an assignment, each a variable and its right side

-- each variable as an expression
abbrev pub variables : List ℕ → List Exp
variables [] = []
variables (x ∷ xs) = variable x ∷ variables xs

-- the assignment of these pairs, which is SKIP where there is none
abbrev pub assignment : List ℕ → List Exp → Tree
assignment [] es = skip
assignment (x ∷ xs) es = assign (x ∷ xs) es

-- the variables, and the right sides, of the pairs for other variables than x
abbrev pub names_without : ℕ → List ℕ → List ℕ
names_without x [] = []
names_without x (y ∷ ys) = if x == y then names_without x ys else y ∷ names_without x ys

abbrev pub values_without : ℕ → List ℕ → List Exp → List Exp
values_without x [] es = []
values_without x (y ∷ ys) [] = []
values_without x (y ∷ ys) (e ∷ es) = if x == y then values_without x ys es else e ∷ values_without x ys es

-- the assignment of the pairs for other variables than x
abbrev pub assigned_without : ℕ → List ℕ → List Exp → Tree
assigned_without x xs es = assignment (names_without x xs) (values_without x xs es)

-- ---- the same in another order

-- the same pairs
pub data PairsReordered : List ℕ → List Exp → List ℕ → List Exp → Type 0 where
  same_pairs : {xs : List ℕ} {es : List Exp} → PairsReordered xs es xs es
  behind_pair : {x : ℕ} {e : Exp} {xs ys : List ℕ} {es fs : List Exp} → PairsReordered xs es ys fs → PairsReordered (x ∷ xs) (e ∷ es) (x ∷ ys) (e ∷ fs)
  two_pairs : {x y : ℕ} {e f : Exp} {xs : List ℕ} {es : List Exp} → PairsReordered (x ∷ y ∷ xs) (e ∷ f ∷ es) (y ∷ x ∷ xs) (f ∷ e ∷ es)
  pairs_in_steps : {xs ys zs : List ℕ} {es fs hs : List Exp} → PairsReordered xs es ys fs → PairsReordered ys fs zs hs → PairsReordered xs es zs hs

-- the same branches
pub data BranchesReordered : Branches → Branches → Type 0 where
  same_branches : {gs : Branches} → BranchesReordered gs gs
  behind_branch : {b : Exp} {w : Waiting} {p : Tree} {gs hs : Branches} → BranchesReordered gs hs → BranchesReordered (and_branch b w p gs) (and_branch b w p hs)
  two_branches : {b c : Exp} {v w : Waiting} {p q : Tree} {gs : Branches}
      → BranchesReordered (and_branch b v p (and_branch c w q gs)) (and_branch c w q (and_branch b v p gs))
  branches_in_steps : {gs hs ks : Branches} → BranchesReordered gs hs → BranchesReordered hs ks → BranchesReordered gs ks
