-- The program's own types under other names are seen as their trees under other names.
use Rattle.std.proofs.Common.{◌≡◌, ℕ, List, [], ◌∷◌, map, refl, ap, ap₂, ◌∙◌}
use Rattle.occ_engine_known.specs.occ_base.declared.names.Name.{Name}
use Rattle.occ_renamed.specs.occ_meaning.Rename.{all_renamed, branches_renamed, cases_renamed, renamed, renamed_exp, renamed_exps, renamed_names, renamed_waiting}
use Rattle.occ_engine_written.specs.Renamed.{alternatives_renamed, choices_renamed, expr_renamed, name_renamed, proc_renamed, row_renamed, wait_renamed}
use Rattle.occ_engine_known.specs.occ_syntax.declared.expr.Expr.{Expr, Var, Word, Bool as TruthValue, Not', Flip', Two'}
use Rattle.occ_engine_known.specs.occ_syntax.declared.expr.Wait.{Wait}
use Rattle.occ_engine_known.specs.occ_syntax.declared.expr.Wait.TheVariants.{Skip as Ready, Get, Put}
use Rattle.occ_engine_known.specs.occ_syntax.declared.proc.Proc.{Proc, Skip, Stop, Assign, Input, Output, Seq', Par', If', Alt', Var', Chan', Row_of-Proc, end_of-Proc, more_of-Proc, Row_of-Choices-list-2, end_of-Choices-list-2, more_of-Choices-list-2, Row_of-Alternatives-list-2, end_of-Alternatives-list-2, more_of-Alternatives-list-2}
use Rattle.occ_engine_known.specs.occ_syntax.Tree.{alt, and_branch, and_case, and_tree, assign, complement, connect, declare, negation, operation, output, par, select, send, seq}
use Rattle.occ_engine_known.specs.occ_syntax.View.{exp, exps, numbers, row_branches, row_cases, row_trees, tree, waiting}

expr_under : (f : ℕ → ℕ) (e : Expr) → exp (expr_renamed f e) ≡ renamed_exp f (exp e)
expr_under f (Var name) = refl
expr_under f (Word bits value) = refl
expr_under f (TruthValue b) = refl
expr_under f (Not' p e) = ap negation (expr_under f e)
expr_under f (Flip' p e) = ap complement (expr_under f e)
expr_under f (Two' op p left q right) = ap₂ (operation op) (expr_under f left) (expr_under f right)

exprs_under : (f : ℕ → ℕ) (es : List Expr) → exps (map (expr_renamed f) es) ≡ renamed_exps f (exps es)
exprs_under f [] = refl
exprs_under f (e ∷ es) = ap₂ ◌∷◌ (expr_under f e) (exprs_under f es)

names_under : (f : ℕ → ℕ) (xs : List Name) → numbers (map (name_renamed f) xs) ≡ renamed_names f (numbers xs)
names_under f [] = refl
names_under f (x ∷ xs) = ap (λ z. f x.0 ∷ z) (names_under f xs)

wait_under : (f : ℕ → ℕ) (w : Wait) → waiting (wait_renamed f w) ≡ renamed_waiting f (waiting w)
wait_under f Ready = refl
wait_under f (Get chan var) = refl
wait_under f (Put chan value) = ap (output (f chan.0)) (expr_under f value)

mutual
  unfolding tree proc_renamed

  pub tree_under : (f : ℕ → ℕ) (p : Proc) → tree (proc_renamed f p) ≡ renamed (tree p) f
  tree_under f Skip = refl
  tree_under f Stop = refl
  tree_under f (Assign vars values) = ap₂ assign (names_under f vars) (exprs_under f values)
  tree_under f (Input chan var) = refl
  tree_under f (Output chan value) = ap (send (f chan.0)) (expr_under f value)
  tree_under f (Seq' shape parts) = ap seq (row_under f parts)
  tree_under f (Par' shape parts) = ap par (row_under f parts)
  tree_under f (If' shape choices) = ap select (choices_under f choices)
  tree_under f (Alt' shape branches) = ap alt (alternatives_under f branches)
  tree_under f (Var' name width p body) = ap (declare (f name.0) width) (tree_under f body)
  tree_under f (Chan' name width p body) = ap (connect (f name.0) width) (tree_under f body)

  row_under : {m : _} (f : ℕ → ℕ) (k : Row_of-Proc m) → row_trees (row_renamed f k) ≡ all_renamed (row_trees k) f
  row_under f end_of-Proc = refl
  row_under f (more_of-Proc part rest) = ap₂ and_tree (tree_under f part) (row_under f rest)

  choices_under : {m : _} (f : ℕ → ℕ) (k : Row_of-Choices-list-2 m) → row_cases (choices_renamed f k) ≡ cases_renamed (row_cases k) f
  choices_under f end_of-Choices-list-2 = refl
  choices_under f (more_of-Choices-list-2 condition part rest) =
      ap₂ (λ e z. and_case e (tree (proc_renamed f part)) z) (expr_under f condition) (choices_under f rest)
      ∙ ap (λ z. and_case (renamed_exp f (exp condition)) z (cases_renamed (row_cases rest) f)) (tree_under f part)

  alternatives_under : {m : _} (f : ℕ → ℕ) (k : Row_of-Alternatives-list-2 m) → row_branches (alternatives_renamed f k) ≡ branches_renamed (row_branches k) f
  alternatives_under f end_of-Alternatives-list-2 = refl
  alternatives_under f (more_of-Alternatives-list-2 guard part rest) =
      ap₂ (λ e w. and_branch e w (tree (proc_renamed f part)) (row_branches (alternatives_renamed f rest))) (expr_under f guard.condition) (wait_under f guard.wait)
      ∙ ap₂ (λ p z. and_branch (renamed_exp f (exp guard.condition)) (renamed_waiting f (waiting guard.wait)) p z) (tree_under f part) (alternatives_under f rest)
