-- How the program's own types are seen as abstract syntax.
use Rattle.std.specs.Prelude.{ℕ, List, [], ◌∷◌, map}
use Rattle.occ_base.specs.declared.names.Name.{Name}
use Rattle.occ_syntax.specs.declared.expr.Expr.{Expr, Var, Word, Bool as TruthValue, Not', Flip', Two'}
use Rattle.occ_syntax.specs.declared.expr.Wait.{Wait}
use Rattle.occ_syntax.specs.declared.expr.Wait.TheVariants.{Skip as Ready, Get, Put}
use Rattle.occ_syntax.specs.declared.expr.Guard.{Guard}
use Rattle.occ_syntax.specs.declared.proc.Proc.{Proc, Skip, Stop, Assign, Input, Output, Seq', Par', If', Alt', Var', Chan', Row_of-Proc, end_of-Proc, more_of-Proc, Row_of-Choices-list-2, end_of-Choices-list-2, more_of-Choices-list-2, Row_of-Alternatives-list-2, end_of-Alternatives-list-2, more_of-Alternatives-list-2}
use Rattle.occ_syntax.specs.declared.proc.Procs.{Procs, out-Procs}
use Rattle.occ_syntax.specs.declared.proc.Choices.{Choices, out-Choices}
use Rattle.occ_syntax.specs.declared.proc.Alternatives.{Alternatives, out-Alternatives}
use Rattle.occ_syntax.specs.Tree.{Exp, variable, numeral, truth, negation, complement, operation, Waiting, ready, input, output, Tree, skip, stop, assign, receive, send, seq, par, select, alt, declare, connect, Trees, no_tree, and_tree, Cases, no_case, and_case, Branches, no_branch, and_branch}

-- the numbers of names
abbrev pub numbers : List Name → List ℕ
numbers names = map (λ name. name.0) names

abbrev pub exp : Expr → Exp
exp (Var name) = variable name.0
exp (Word bits value) = numeral bits value
exp (TruthValue b) = truth b
exp (Not' p e) = negation (exp e)
exp (Flip' p e) = complement (exp e)
exp (Two' op p left q right) = operation op (exp left) (exp right)

abbrev pub exps : List Expr → List Exp
exps es = map exp es

abbrev pub waiting : Wait → Waiting
waiting Ready = ready
waiting (Get chan var) = input chan.0 var.0
waiting (Put chan value) = output chan.0 (exp value)

unfoldable mutual
  pub tree : Proc → Tree
  tree Skip = skip
  tree Stop = stop
  tree (Assign vars values) = assign (numbers vars) (exps values)
  tree (Input chan var) = receive chan.0 var.0
  tree (Output chan value) = send chan.0 (exp value)
  tree (Seq' shape parts) = seq (row_trees parts)
  tree (Par' shape parts) = par (row_trees parts)
  tree (If' shape choices) = select (row_cases choices)
  tree (Alt' shape branches) = alt (row_branches branches)
  tree (Var' name width p body) = declare name.0 width (tree body)
  tree (Chan' name width p body) = connect name.0 width (tree body)

  pub row_trees : {m : _} → Row_of-Proc m → Trees
  row_trees end_of-Proc = no_tree
  row_trees (more_of-Proc part rest) = and_tree (tree part) (row_trees rest)

  pub row_cases : {m : _} → Row_of-Choices-list-2 m → Cases
  row_cases end_of-Choices-list-2 = no_case
  row_cases (more_of-Choices-list-2 condition part rest) = and_case (exp condition) (tree part) (row_cases rest)

  pub row_branches : {m : _} → Row_of-Alternatives-list-2 m → Branches
  row_branches end_of-Alternatives-list-2 = no_branch
  row_branches (more_of-Alternatives-list-2 guard part rest) = and_branch (exp guard.condition) (waiting guard.wait) (tree part) (row_branches rest)

-- the same over lists, as code sees them
abbrev pub trees : List Proc → Trees
trees [] = no_tree
trees (part ∷ rest) = and_tree (tree part) (trees rest)

abbrev pub cases : List (Expr × Proc) → Cases
cases [] = no_case
cases (choice ∷ rest) = and_case (exp choice.0) (tree choice.1) (cases rest)

abbrev pub branches : List (Guard × Proc) → Branches
branches [] = no_branch
branches (alternative ∷ rest) = and_branch (exp alternative.0.condition) (waiting alternative.0.wait) (tree alternative.1) (branches rest)

-- the items of the list types that stand inside a process
unfoldable pub in_procs : Procs → List Proc
in_procs parts = (out-Procs parts).list.items

unfoldable pub in_choices : Choices → List (Expr × Proc)
in_choices choices = (out-Choices choices).list.items

unfoldable pub in_alternatives : Alternatives → List (Guard × Proc)
in_alternatives alternatives = (out-Alternatives alternatives).list.items
