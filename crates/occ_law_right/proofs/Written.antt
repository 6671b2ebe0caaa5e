-- Lists that grow by an item at their end, with what is still to be written behind them: the whole stays the same.
use Rattle.std.proofs.Common.{◌≡◌, ℕ, ◌+◌, ◌<◌, ◌≤◌, true, false, if◌then◌else◌, List, [], ◌∷◌, ◌++◌, length, map, get_or, drop, refl, ap, sym, ◌∙◌}
use Rattle.std.proofs.lemmas.List.{append-nil, at_drop_all, at_drop_more}
use Rattle.occ_syntax.specs.occ_base.declared.names.Name.{Name}
use Rattle.occ_syntax.specs.occ_base.declared.width.Width.{Width}
use Rattle.occ_law_seq.specs.occ_law.Lists.{all_branches, all_cases, names_without}
use Rattle.occ_law_seq.specs.occ_law.Scope.{is_on, without_channel}
use Rattle.occ_law_seq.specs.occ_law_shape.Pieces.{each_choice}
use Rattle.occ_law_scope.specs.occ_meaning.Parallel.{all_of}
use Rattle.occ_syntax.specs.declared.expr.Expr.{Expr}
use Rattle.occ_syntax.specs.declared.expr.Guard.{Guard}
use Rattle.occ_syntax.specs.declared.proc.Proc.{Proc}
use Rattle.occ_syntax.specs.Tree.{Exp, Waiting, Tree, connect, Trees, no_tree, and_tree, Cases, no_case, and_case, Branches, no_branch, and_branch}
use Rattle.occ_syntax.specs.View.{branches, cases, exp, numbers, tree, trees, waiting}

-- ---- processes

part_last : (ys : List Proc) (y : Proc) (rest : Trees) → all_of (trees (ys ++ y ∷ [])) rest ≡ all_of (trees ys) (and_tree (tree y) rest)
part_last [] y rest = refl
part_last (z ∷ ys) y rest = ap (and_tree (tree z)) (part_last ys y rest)

pub part_written : (xs ys zs : List Proc) (i : ℕ) (x y : Proc) (whole : Trees) → i < length xs → x ≡ get_or xs i x → tree y ≡ tree x → zs ≡ ys ++ y ∷ []
    → all_of (trees ys) (trees (drop i xs)) ≡ whole → all_of (trees zs) (trees (drop (i + 1) xs)) ≡ whole
part_written xs ys zs i x y whole h is same e so_far =
    let rest = trees (drop (i + 1) xs) in
    let left : trees (drop i xs) ≡ and_tree (tree x) rest = at_drop_more trees xs i x h ∙ ap (λ z. trees (z ∷ drop (i + 1) xs)) (sym is) in
    ap (λ l. all_of (trees l) rest) e ∙ part_last ys y rest ∙ ap (all_of (trees ys)) (ap (λ z. and_tree z rest) same ∙ sym left) ∙ so_far

parts_end : (ps : Trees) → all_of ps no_tree ≡ ps
parts_end no_tree = refl
parts_end (and_tree p ps) = ap (and_tree p) (parts_end ps)

pub parts_written : (xs ys : List Proc) (i : ℕ) (whole : Trees) → length xs ≤ i → all_of (trees ys) (trees (drop i xs)) ≡ whole → trees ys ≡ whole
parts_written xs ys i whole h so_far = sym (parts_end (trees ys)) ∙ ap (all_of (trees ys)) (sym (at_drop_all trees xs i h)) ∙ so_far

-- ---- choices

choice_last : (ys : List (Expr × Proc)) (y : Expr × Proc) (rest : Cases) → all_cases (cases (ys ++ y ∷ [])) rest ≡ all_cases (cases ys) (and_case (exp y.0) (tree y.1) rest)
choice_last [] y rest = refl
choice_last (z ∷ ys) y rest = ap (and_case (exp z.0) (tree z.1)) (choice_last ys y rest)

pub choice_written : (f : Exp → Exp) (g : Tree → Tree) (xs ys zs : List (Expr × Proc)) (i : ℕ) (x : Expr × Proc) (e : Expr) (p : Proc) (whole : Cases)
    → i < length xs → x ≡ get_or xs i x → exp e ≡ f (exp x.0) → tree p ≡ g (tree x.1) → zs ≡ ys ++ (e, p) ∷ []
    → all_cases (cases ys) (each_choice f g (cases (drop i xs))) ≡ whole → all_cases (cases zs) (each_choice f g (cases (drop (i + 1) xs))) ≡ whole
choice_written f g xs ys zs i x e p whole h is first second k so_far =
    let rest = each_choice f g (cases (drop (i + 1) xs)) in
    let left : each_choice f g (cases (drop i xs)) ≡ and_case (f (exp x.0)) (g (tree x.1)) rest =
    at_drop_more (λ l. each_choice f g (cases l)) xs i x h ∙ ap (λ z. each_choice f g (cases (z ∷ drop (i + 1) xs))) (sym is) in
    ap (λ l. all_cases (cases l) rest) k ∙ choice_last ys (e, p) rest
    ∙ ap (all_cases (cases ys)) (ap (λ z. and_case z (tree p) rest) first ∙ ap (λ z. and_case (f (exp x.0)) z rest) second ∙ sym left) ∙ so_far

choices_end : (cs : Cases) → all_cases cs no_case ≡ cs
choices_end no_case = refl
choices_end (and_case b p cs) = ap (and_case b p) (choices_end cs)

pub choices_written : (f : Exp → Exp) (g : Tree → Tree) (xs ys : List (Expr × Proc)) (i : ℕ) (whole : Cases) → length xs ≤ i
    → all_cases (cases ys) (each_choice f g (cases (drop i xs))) ≡ whole → cases ys ≡ whole
choices_written f g xs ys i whole h so_far =
    sym (choices_end (cases ys)) ∙ ap (all_cases (cases ys)) (sym (at_drop_all (λ l. each_choice f g (cases l)) xs i h)) ∙ so_far

-- ---- branches

branch_last : (ys : List (Guard × Proc)) (y : Guard × Proc) (rest : Branches)
    → all_branches (branches (ys ++ y ∷ [])) rest ≡ all_branches (branches ys) (and_branch (exp y.0.condition) (waiting y.0.wait) (tree y.1) rest)
branch_last [] y rest = refl
branch_last (z ∷ ys) y rest = ap (and_branch (exp z.0.condition) (waiting z.0.wait) (tree z.1)) (branch_last ys y rest)

-- the first branch that is still to be written
pub branch_written : (ys zs : List (Guard × Proc)) (g : Guard) (p : Proc) (b : Exp) (w : Waiting) (q : Tree) (left rest whole : Branches) → zs ≡ ys ++ (g, p) ∷ []
    → exp g.condition ≡ b → waiting g.wait ≡ w → tree p ≡ q → left ≡ and_branch b w q rest → all_branches (branches ys) left ≡ whole → all_branches (branches zs) rest ≡ whole
branch_written ys zs g p b w q left rest whole e first second third next so_far =
    ap (λ l. all_branches (branches l) rest) e ∙ branch_last ys (g, p) rest
    ∙ ap (all_branches (branches ys)) (ap (λ z. and_branch z (waiting g.wait) (tree p) rest) first ∙ ap (λ z. and_branch b z (tree p) rest) second ∙ ap (λ z. and_branch b w z rest) third ∙ sym next)
    ∙ so_far

-- nothing is written
pub branch_passed : (ys zs : List (Guard × Proc)) (left rest whole : Branches) → zs ≡ ys → left ≡ rest → all_branches (branches ys) left ≡ whole → all_branches (branches zs) rest ≡ whole
branch_passed ys zs left rest whole e f so_far = ap (λ l. all_branches (branches l) rest) e ∙ ap (all_branches (branches ys)) (sym f) ∙ so_far

branches_end : (bs : Branches) → all_branches bs no_branch ≡ bs
branches_end no_branch = refl
branches_end (and_branch b w p bs) = ap (and_branch b w p) (branches_end bs)

-- nothing is left to be written
pub branches_written : (ys : List (Guard × Proc)) (left whole : Branches) → left ≡ no_branch → all_branches (branches ys) left ≡ whole → branches ys ≡ whole
branches_written ys left whole e so_far = sym (branches_end (branches ys)) ∙ ap (all_branches (branches ys)) (sym e) ∙ so_far

-- the branches from a place on
pub branches_from : (xs : List (Guard × Proc)) (i : ℕ) (x : Guard × Proc) → i < length xs → x ≡ get_or xs i x
    → branches (drop i xs) ≡ and_branch (exp x.0.condition) (waiting x.0.wait) (tree x.1) (branches (drop (i + 1) xs))
branches_from xs i x h is = at_drop_more branches xs i x h ∙ ap (λ z. branches (z ∷ drop (i + 1) xs)) (sym is)

pub no_branches : (xs : List (Guard × Proc)) (i : ℕ) → length xs ≤ i → branches (drop i xs) ≡ no_branch
no_branches xs i h = at_drop_all branches xs i h

-- a branch that isn't on the channel, and one that is
pub off_channel_more : (c : ℕ) (w : Width) (b : Exp) (v : Waiting) (p : Tree) (left gs : Branches) → is_on v c ≡ false → left ≡ and_branch b v p gs
    → without_channel c w left ≡ and_branch b v (connect c w p) (without_channel c w gs)
off_channel_more c w b v p left gs h e = ap (without_channel c w) e ∙ ap (λ t. if t then without_channel c w gs else and_branch b v (connect c w p) (without_channel c w gs)) h

pub on_channel_more : (c : ℕ) (w : Width) (b : Exp) (v : Waiting) (p : Tree) (left gs : Branches) → is_on v c ≡ true → left ≡ and_branch b v p gs
    → without_channel c w left ≡ without_channel c w gs
on_channel_more c w b v p left gs h e = ap (without_channel c w) e ∙ ap (λ t. if t then without_channel c w gs else and_branch b v (connect c w p) (without_channel c w gs)) h

-- ---- items of assignments

pub items_written : {A B : Type 0} (f : A → B) (ys : List A) (left whole : List B) → left ≡ [] → map f ys ++ left ≡ whole → map f ys ≡ whole
items_written f ys left whole e so_far = sym (append-nil (map f ys)) ∙ ap (λ l. map f ys ++ l) (sym e) ∙ so_far

pub names_over : (x : ℕ) (xs : List Name) (i : ℕ) → length xs ≤ i → names_without x (numbers (drop i xs)) ≡ []
names_over x xs i h = at_drop_all (λ l. names_without x (numbers l)) xs i h
