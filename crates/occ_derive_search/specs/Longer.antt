-- Processes with one item more at their end.
use Rattle.std.specs.Prelude.{ℕ, [], ◌∷◌, ◌++◌, Option, None, Some}
use Rattle.occ_syntax.specs.Tree.{Exp, Waiting, Tree, assign, seq, par, select, alt, Trees, no_tree, and_tree, Cases, no_case, and_case, Branches, no_branch, and_branch}

abbrev pub more_trees : Trees → Tree → Trees
more_trees no_tree p = and_tree p no_tree
more_trees (and_tree q ps) p = and_tree q (more_trees ps p)

abbrev pub more_cases : Cases → Exp → Tree → Cases
more_cases no_case e p = and_case e p no_case
more_cases (and_case f q cs) e p = and_case f q (more_cases cs e p)

abbrev pub more_branches : Branches → Exp → Waiting → Tree → Branches
more_branches no_branch e w p = and_branch e w p no_branch
more_branches (and_branch f v q bs) e w p = and_branch f v q (more_branches bs e w p)

-- a SEQ or a PAR with one part more
abbrev pub longer_row : Tree → Tree → Option Tree
longer_row (seq ps) p = Some (seq (more_trees ps p))
longer_row (par ps) p = Some (par (more_trees ps p))
longer_row _ p = None

-- an assignment with one pair more
abbrev pub longer_assignment : Tree → ℕ → Exp → Option Tree
longer_assignment (assign xs es) x e = Some (assign (xs ++ x ∷ []) (es ++ e ∷ []))
longer_assignment _ x e = None

-- an IF with one choice more
abbrev pub longer_if : Tree → Exp → Tree → Option Tree
longer_if (select cs) e p = Some (select (more_cases cs e p))
longer_if _ e p = None

-- an ALT with one alternative more
abbrev pub longer_alt : Tree → Exp → Waiting → Tree → Option Tree
longer_alt (alt bs) e w p = Some (alt (more_branches bs e w p))
longer_alt _ e w p = None
