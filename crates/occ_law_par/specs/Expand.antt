-- The branches of par-expand one by one: what runs beside a process, what two guards pass, and what stands behind the
-- branches that are put in front of others.
use Rattle.std.specs.Prelude.{◌≡◌, List, Option, None, Some}
use Rattle.std.specs.Borrow.{Bor}
use Rattle.occ_syntax.specs.occ_base.declared.names.Name.{Name}
use Rattle.occ_syntax.specs.declared.expr.Expr.{Expr}
use Rattle.occ_syntax.specs.declared.expr.Guard.{Guard}
use Rattle.occ_syntax.specs.declared.expr.Op.TheVariants.{And}
use Rattle.occ_syntax.specs.declared.proc.Proc.{Proc}
use Rattle.occ_syntax.specs.Tree.{Exp, operation, Waiting, ready, Tree, par, alt, Branches, and_branch}
use Rattle.occ_syntax.specs.View.{exp, tree, branches}
use Rattle.occ_law_shape.specs.occ_meaning.Parallel.{two}
use Rattle.occ_law_shape.specs.occ_law.Parallel.{both_go, first_goes, meeting, second_goes}
use Rattle.occ_law_par.specs.declared.running.Beside.{Beside}
use Rattle.occ_law_par.specs.declared.running.Beside.TheVariants.{Behind, Before}

-- the PAR of a process and what runs beside it
abbrev pub run_beside : Beside → Tree → Tree
run_beside (Behind second) p = par (two p (tree second.now))
run_beside (Before first) q = par (two (tree first.now) q)

-- the branches, each process with what runs beside it
abbrev pub each_beside : Beside → Branches → Branches
each_beside (Behind second) ls = first_goes ls (tree second.now)
each_beside (Before first) ms = second_goes (tree first.now) ms

-- the branches of the ALT; or it isn't one
abbrev pub IsAlt : Tree → Option (Bor (List (Guard × Proc))) → Type 0
IsAlt whole None = (gs : Branches) → whole ≡ alt gs → ⊥
IsAlt whole (Some found) = whole ≡ alt (branches found.now)

-- what stands behind the branches that are put in front; or they don't stand there
abbrev pub IsRest : (Branches → Branches) → Branches → Option (Bor (List (Guard × Proc))) → Type 0
IsRest put_in_front all None = (rest : Branches) → all ≡ put_in_front rest → ⊥
IsRest put_in_front all (Some found) = all ≡ put_in_front (branches found.now)

-- the variable and the value that two guards pass, and so the branch in which they meet; or they don't meet
abbrev pub IsPassed : Waiting → Waiting → Option (Name × Bor Expr) → Type 0
IsPassed v w None = (b c : Exp) (p q : Tree) (rest : Branches) → meeting b v p c w q rest ≡ rest
IsPassed v w (Some found) = (b c : Exp) (p q : Tree) (rest : Branches)
    → meeting b v p c w q rest ≡ and_branch (operation And b c) ready (both_go found.0.0 (exp found.1.now) p q) rest
