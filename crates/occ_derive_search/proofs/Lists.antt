-- Lists of items with one more at their end, and processes that have no such list.
use Rattle.std.proofs.Common.{◌≡◌, List, [], ◌∷◌, ◌++◌, Some, refl, ap, sym, ◌∙◌}
use Rattle.std.proofs.lemmas.List.{map-append}
use Rattle.occ_syntax.specs.occ_base.declared.names.Name.{Name}
use Rattle.occ_derive_search.specs.Longer.{longer_alt, longer_assignment, longer_if, longer_row, more_branches, more_cases, more_trees}
use Rattle.occ_syntax.specs.declared.expr.Expr.{Expr}
use Rattle.occ_syntax.specs.declared.expr.Guard.{Guard}
use Rattle.occ_syntax.specs.declared.proc.Alternatives.{Alternatives}
use Rattle.occ_syntax.specs.declared.proc.Choices.{Choices}
use Rattle.occ_syntax.specs.declared.proc.Proc.{Alt, If, Par, Proc, Seq}
use Rattle.occ_syntax.specs.declared.proc.Procs.{Procs}
use Rattle.occ_syntax.specs.Tree.{Tree, alt, and_branch, and_case, and_tree, assign, par, select, seq}
use Rattle.occ_syntax.proofs.Views.{tree-Alt, tree-If, tree-Par, tree-Seq}
use Rattle.occ_syntax.specs.View.{branches, cases, exp, exps, in_alternatives, in_choices, in_procs, numbers, tree, trees, waiting}

-- a row of processes with one more, as trees
pub trees_more : (ps : List Proc) (p : Proc) → trees (ps ++ p ∷ []) ≡ more_trees (trees ps) (tree p)
trees_more [] p = refl
trees_more (q ∷ ps) p = ap (and_tree (tree q)) (trees_more ps p)

-- choices with one more, as trees
pub cases_more : (cs : List (Expr × Proc)) (e : Expr) (p : Proc) → cases (cs ++ (e, p) ∷ []) ≡ more_cases (cases cs) (exp e) (tree p)
cases_more [] e p = refl
cases_more (c ∷ cs) e p = ap (and_case (exp c.0) (tree c.1)) (cases_more cs e p)

-- alternatives with one more, as trees
pub branches_more : (bs : List (Guard × Proc)) (g : Guard) (p : Proc)
    → branches (bs ++ (g, p) ∷ []) ≡ more_branches (branches bs) (exp g.condition) (waiting g.wait) (tree p)
branches_more [] g p = refl
branches_more (b ∷ bs) g p = ap (and_branch (exp b.0.condition) (waiting b.0.wait) (tree b.1)) (branches_more bs g p)

-- ---- what the items make

-- a SEQ with one part more
pub seq_more : (parts new : Procs) (part : Proc) (whole next : Tree) → whole ≡ seq (trees (in_procs parts)) → in_procs new ≡ in_procs parts ++ part ∷ []
    → longer_row whole (tree part) ≡ Some next → tree (Seq new) ≡ next
seq_more parts new part whole next e g h =
    let made : Some (seq (more_trees (trees (in_procs parts)) (tree part))) ≡ Some next = ap (λ q. longer_row q (tree part)) (sym e) ∙ h in
    let same : seq (more_trees (trees (in_procs parts)) (tree part)) ≡ next = cc in
    tree-Seq new ∙ ap (λ ps. seq (trees ps)) g ∙ ap seq (trees_more (in_procs parts) part) ∙ same

-- a PAR with one part more
pub par_more : (parts new : Procs) (part : Proc) (whole next : Tree) → whole ≡ par (trees (in_procs parts)) → in_procs new ≡ in_procs parts ++ part ∷ []
    → longer_row whole (tree part) ≡ Some next → tree (Par new) ≡ next
par_more parts new part whole next e g h =
    let made : Some (par (more_trees (trees (in_procs parts)) (tree part))) ≡ Some next = ap (λ q. longer_row q (tree part)) (sym e) ∙ h in
    let same : par (more_trees (trees (in_procs parts)) (tree part)) ≡ next = cc in
    tree-Par new ∙ ap (λ ps. par (trees ps)) g ∙ ap par (trees_more (in_procs parts) part) ∙ same

-- an IF with one choice more
pub if_more : (choices new : Choices) (e : Expr) (part : Proc) (whole next : Tree) → whole ≡ select (cases (in_choices choices))
    → in_choices new ≡ in_choices choices ++ (e, part) ∷ [] → longer_if whole (exp e) (tree part) ≡ Some next → tree (If new) ≡ next
if_more choices new e part whole next is g h =
    let made : Some (select (more_cases (cases (in_choices choices)) (exp e) (tree part))) ≡ Some next = ap (λ q. longer_if q (exp e) (tree part)) (sym is) ∙ h in
    let same : select (more_cases (cases (in_choices choices)) (exp e) (tree part)) ≡ next = cc in
    tree-If new ∙ ap (λ cs. select (cases cs)) g ∙ ap select (cases_more (in_choices choices) e part) ∙ same

-- an ALT with one alternative more
pub alt_more : (alternatives new : Alternatives) (guard : Guard) (part : Proc) (whole next : Tree) → whole ≡ alt (branches (in_alternatives alternatives))
    → in_alternatives new ≡ in_alternatives alternatives ++ (guard, part) ∷ []
    → longer_alt whole (exp guard.condition) (waiting guard.wait) (tree part) ≡ Some next → tree (Alt new) ≡ next
alt_more alternatives new guard part whole next is g h =
    let made : Some (alt (more_branches (branches (in_alternatives alternatives)) (exp guard.condition) (waiting guard.wait) (tree part))) ≡ Some next =
    ap (λ q. longer_alt q (exp guard.condition) (waiting guard.wait) (tree part)) (sym is) ∙ h in
    let same : alt (more_branches (branches (in_alternatives alternatives)) (exp guard.condition) (waiting guard.wait) (tree part)) ≡ next = cc in
    tree-Alt new ∙ ap (λ bs. alt (branches bs)) g ∙ ap alt (branches_more (in_alternatives alternatives) guard part) ∙ same

-- an assignment with one pair more
pub pair_more : (vars longer_vars : List Name) (values longer_values : List Expr) (x : Name) (e : Expr) (whole next : Tree)
    → whole ≡ assign (numbers vars) (exps values) → longer_vars ≡ vars ++ x ∷ [] → longer_values ≡ values ++ e ∷ []
    → longer_assignment whole x.0 (exp e) ≡ Some next → assign (numbers longer_vars) (exps longer_values) ≡ next
pair_more vars longer_vars values longer_values x e whole next is g k h =
    let made : Some (assign (numbers vars ++ x.0 ∷ []) (exps values ++ exp e ∷ [])) ≡ Some next = ap (λ q. longer_assignment q x.0 (exp e)) (sym is) ∙ h in
    let same : assign (numbers vars ++ x.0 ∷ []) (exps values ++ exp e ∷ []) ≡ next = cc in
    let a : numbers longer_vars ≡ numbers vars ++ x.0 ∷ [] = ap numbers g ∙ map-append (λ (name : Name). name.0) vars (x ∷ []) in
    let b : exps longer_values ≡ exps values ++ exp e ∷ [] = ap exps k ∙ map-append exp values (e ∷ []) in
    ap (λ xs. assign xs (exps longer_values)) a ∙ ap (assign (numbers vars ++ x.0 ∷ [])) b ∙ same
