-- Parts in which a name is replaced.
use Rattle.std.proofs.Common.{◌≡◌, ℕ, List, [], ◌∷◌, map, refl, ap, ◌∙◌}
use Rattle.occ_syntax.specs.occ_base.declared.names.Name.{Name}
use Rattle.occ_syntax.specs.declared.expr.Expr.{Expr}
use Rattle.occ_syntax.specs.declared.expr.Guard.{Guard}
use Rattle.occ_syntax.specs.declared.proc.Proc.{Proc}
use Rattle.occ_syntax.specs.declared.scope.Kind.{Kind}
use Rattle.occ_syntax.specs.declared.scope.Kind.TheVariants.{Var, Chan}
use Rattle.occ_syntax.specs.Declarations.{declaring}
use Rattle.occ_syntax.specs.Tree.{Exp, Waiting, Tree, and_tree, and_case, and_branch}
use Rattle.occ_syntax.specs.View.{numbers, exp, exps, waiting, tree, trees, cases, branches}
use Rattle.occ_syntax.proofs.Rows.{choice, alternative}
use Rattle.occ_meaning.specs.Rename.{renamed, renamed_exp, renamed_names, renamed_exps, renamed_waiting, all_renamed, cases_renamed, branches_renamed}

pub renamed_numbers : (r : ℕ → ℕ) (ks : List Name) → renamed_names r (numbers ks) ≡ map (λ (k : Name). r k.0) ks
renamed_numbers r [] = refl
renamed_numbers r (k ∷ ks) = ap (λ ns. r k.0 ∷ ns) (renamed_numbers r ks)

pub renamed_values : (r : ℕ → ℕ) (es : List Expr) → renamed_exps r (exps es) ≡ map (λ e. renamed_exp r (exp e)) es
renamed_values r [] = refl
renamed_values r (e ∷ es) = ap (λ ds. renamed_exp r (exp e) ∷ ds) (renamed_values r es)

pub renamed-declaring : (r : ℕ → ℕ) (x : ℕ) (k : Kind) (p : Tree) → renamed (declaring x k p) r ≡ declaring (r x) k (renamed p r)
renamed-declaring r x (Var w) p = refl
renamed-declaring r x (Chan w d) p = refl

pub all_made : (r : ℕ → ℕ) (qs ps : List Proc) → map tree qs ≡ map (λ p. renamed (tree p) r) ps → trees qs ≡ all_renamed (trees ps) r
all_made r [] [] e = refl
all_made r [] (p ∷ ps) e = cc
all_made r (q ∷ qs) [] e = cc
all_made r (q ∷ qs) (p ∷ ps) e =
    let first : tree q ≡ renamed (tree p) r = cc in
    let rest : map tree qs ≡ map (λ p. renamed (tree p) r) ps = cc in
    ap (λ t. and_tree t (trees qs)) first ∙ ap (and_tree (renamed (tree p) r)) (all_made r qs ps rest)

abbrev pub made_choice : (ℕ → ℕ) → Expr × Proc → Exp × Tree
made_choice r c = (renamed_exp r (exp c.0), renamed (tree c.1) r)

pub cases_made : (r : ℕ → ℕ) (ds cs : List (Expr × Proc)) → map choice ds ≡ map (made_choice r) cs → cases ds ≡ cases_renamed (cases cs) r
cases_made r [] [] e = refl
cases_made r [] (c ∷ cs) e = cc
cases_made r (d ∷ ds) [] e = cc
cases_made r (d ∷ ds) (c ∷ cs) e =
    let heads : choice d ≡ made_choice r c = cc in
    let first : exp d.0 ≡ renamed_exp r (exp c.0) = ap (λ (z : Exp × Tree). z.0) heads in
    let second : tree d.1 ≡ renamed (tree c.1) r = ap (λ (z : Exp × Tree). z.1) heads in
    let rest : map choice ds ≡ map (made_choice r) cs = cc in
    ap (λ v. and_case v (tree d.1) (cases ds)) first ∙ ap (λ t. and_case (renamed_exp r (exp c.0)) t (cases ds)) second
    ∙ ap (and_case (renamed_exp r (exp c.0)) (renamed (tree c.1) r)) (cases_made r ds cs rest)

abbrev pub made_alternative : (ℕ → ℕ) → Guard × Proc → Exp × Waiting × Tree
made_alternative r b = (renamed_exp r (exp b.0.condition), renamed_waiting r (waiting b.0.wait), renamed (tree b.1) r)

pub branches_made : (r : ℕ → ℕ) (ds bs : List (Guard × Proc)) → map alternative ds ≡ map (made_alternative r) bs → branches ds ≡ branches_renamed (branches bs) r
branches_made r [] [] e = refl
branches_made r [] (b ∷ bs) e = cc
branches_made r (d ∷ ds) [] e = cc
branches_made r (d ∷ ds) (b ∷ bs) e =
    let heads : alternative d ≡ made_alternative r b = cc in
    let first : exp d.0.condition ≡ renamed_exp r (exp b.0.condition) = ap (λ (z : Exp × Waiting × Tree). z.0) heads in
    let second : waiting d.0.wait ≡ renamed_waiting r (waiting b.0.wait) = ap (λ (z : Exp × Waiting × Tree). z.1) heads in
    let third : tree d.1 ≡ renamed (tree b.1) r = ap (λ (z : Exp × Waiting × Tree). z.2) heads in
    let rest : map alternative ds ≡ map (made_alternative r) bs = cc in
    ap (λ v. and_branch v (waiting d.0.wait) (tree d.1) (branches ds)) first
    ∙ ap (λ w. and_branch (renamed_exp r (exp b.0.condition)) w (tree d.1) (branches ds)) second
    ∙ ap (λ t. and_branch (renamed_exp r (exp b.0.condition)) (renamed_waiting r (waiting b.0.wait)) t (branches ds)) third
    ∙ ap (and_branch (renamed_exp r (exp b.0.condition)) (renamed_waiting r (waiting b.0.wait)) (renamed (tree b.1) r)) (branches_made r ds bs rest)
