-- What the view of a process with parts is, by the lists of its parts.
use Rattle.std.proofs.Common.{◌≡◌, refl, ap, ◌∙◌}
use Rattle.occ_syntax.specs.declared.proc.Proc.{Seq, Par, If, Alt, Row_of-Proc, end_of-Proc, more_of-Proc, items-the_row-Proc, items_hidden-the_row-Proc-0, Row_of-Choices-list-2, end_of-Choices-list-2, more_of-Choices-list-2, items-the_row-Choices-list-2, items_hidden-the_row-Choices-list-2-1, Row_of-Alternatives-list-2, end_of-Alternatives-list-2, more_of-Alternatives-list-2, items-the_row-Alternatives-list-2, items_hidden-the_row-Alternatives-list-2-2}
use Rattle.occ_syntax.specs.declared.proc.Proc.TheBlock.{hidden-the_row-Proc-0, hidden-the_row-Choices-list-2-1, hidden-the_row-Alternatives-list-2-2}
use Rattle.occ_syntax.specs.declared.proc.Procs.{Procs, out-Procs}
use Rattle.occ_syntax.specs.declared.proc.Choices.{Choices, out-Choices}
use Rattle.occ_syntax.specs.declared.proc.Alternatives.{Alternatives, out-Alternatives}
use Rattle.occ_syntax.specs.Tree.{seq, par, select, alt, and_tree, and_case, and_branch}
use Rattle.occ_syntax.specs.View.{exp, waiting, tree, row_trees, row_cases, row_branches, trees, cases, branches, in_procs, in_choices, in_alternatives}

row_trees_are : {m : _} (k : Row_of-Proc m) → row_trees k ≡ trees (items-the_row-Proc m k)
unfolding row_trees tree
row_trees_are end_of-Proc = refl
row_trees_are (more_of-Proc p k) = ap (and_tree (tree p)) (row_trees_are k)

row_cases_are : {m : _} (k : Row_of-Choices-list-2 m) → row_cases k ≡ cases (items-the_row-Choices-list-2 m k)
unfolding row_cases tree
row_cases_are end_of-Choices-list-2 = refl
row_cases_are (more_of-Choices-list-2 e p k) = ap (and_case (exp e) (tree p)) (row_cases_are k)

row_branches_are : {m : _} (k : Row_of-Alternatives-list-2 m) → row_branches k ≡ branches (items-the_row-Alternatives-list-2 m k)
unfolding row_branches tree
row_branches_are end_of-Alternatives-list-2 = refl
row_branches_are (more_of-Alternatives-list-2 g p k) = ap (and_branch (exp g.condition) (waiting g.wait) (tree p)) (row_branches_are k)

pub tree-Seq : (parts : Procs) → tree (Seq parts) ≡ seq (trees (in_procs parts))
unfolding tree in_procs
tree-Seq parts = ap seq (row_trees_are (hidden-the_row-Proc-0 (out-Procs parts).list) ∙ ap trees (items_hidden-the_row-Proc-0 (out-Procs parts).list))

pub tree-Par : (parts : Procs) → tree (Par parts) ≡ par (trees (in_procs parts))
unfolding tree in_procs
tree-Par parts = ap par (row_trees_are (hidden-the_row-Proc-0 (out-Procs parts).list) ∙ ap trees (items_hidden-the_row-Proc-0 (out-Procs parts).list))

pub tree-If : (choices : Choices) → tree (If choices) ≡ select (cases (in_choices choices))
unfolding tree in_choices
tree-If choices = ap select (row_cases_are (hidden-the_row-Choices-list-2-1 (out-Choices choices).list) ∙ ap cases (items_hidden-the_row-Choices-list-2-1 (out-Choices choices).list))

pub tree-Alt : (alternatives : Alternatives) → tree (Alt alternatives) ≡ alt (branches (in_alternatives alternatives))
unfolding tree in_alternatives
tree-Alt alternatives = ap alt (row_branches_are (hidden-the_row-Alternatives-list-2-2 (out-Alternatives alternatives).list) ∙ ap branches (items_hidden-the_row-Alternatives-list-2-2 (out-Alternatives alternatives).list))
