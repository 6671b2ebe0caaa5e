-- Lists made piece by piece.
use Rattle.occ_syntax.specs.Tree.{Exp, Waiting, Tree, Cases, no_case, and_case, Branches, no_branch, and_branch}

-- the choices, each with what is made of its condition and its process
abbrev pub each_choice : (Exp → Exp) → (Tree → Tree) → Cases → Cases
each_choice f g no_case = no_case
each_choice f g (and_case b p cs) = and_case (f b) (g p) (each_choice f g cs)

-- the branches, each with what is made of its condition, of what it waits for, and of its process in view of that
abbrev pub each_branch : (Exp → Exp) → (Waiting → Waiting) → (Waiting → Tree → Tree) → Branches → Branches
each_branch f h g no_branch = no_branch
each_branch f h g (and_branch b w p bs) = and_branch (f b) (h w) (g w p) (each_branch f h g bs)
