-- Lists of branches that grow at their end, and what two guards pass.
use Rattle.std.specs.Prelude.{◌≡◌, Option, None, Some}
use Rattle.std.specs.Borrow.{Bor}
use Rattle.occ_syntax.specs.occ_base.declared.names.Name.{Name}
use Rattle.occ_syntax.specs.declared.expr.Expr.{Expr}
use Rattle.occ_syntax.specs.declared.expr.Op.TheVariants.{And}
use Rattle.occ_syntax.specs.Tree.{Exp, operation, Waiting, ready, Tree, Branches, and_branch}
use Rattle.occ_syntax.specs.View.{exp}
use Rattle.occ_law_shape.specs.occ_law.Lists.{all_branches}
use Rattle.occ_law_shape.specs.occ_law.Parallel.{both_go, meeting}

-- branches are put behind others, in front of what follows
abbrev pub IsPut : (Branches → Branches) → Branches → Branches → Type 0
IsPut put before after = (rest : Branches) → all_branches after rest ≡ all_branches before (put rest)

-- the variable and the value that two guards pass, and so the branch in which they meet; or they don't meet
abbrev pub IsPassed : Waiting → Waiting → Option (Name × Bor Expr) → Type 0
IsPassed v w None = (b c : Exp) (p q : Tree) (rest : Branches) → meeting b v p c w q rest ≡ rest
IsPassed v w (Some found) = (b c : Exp) (p q : Tree) (rest : Branches)
    → meeting b v p c w q rest ≡ and_branch (operation And b c) ready (both_go found.0.0 (exp found.1.now) p q) rest
