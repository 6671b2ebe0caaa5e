-- Lists of parts, seen through what their items look like.
use Rattle.std.proofs.Common.{◌≡◌, ℕ, ◌<◌, ◌≤◌, Bool, true, false, true≢false, IsTrue, ◌↔◌, List, [], ◌∷◌, map, length, get_or, take, refl, ap, sym, ◌∙◌}
use Rattle.std.proofs.lemmas.List.{get_or-map, length-map, take_all}
use Rattle.occ_base.specs.declared.names.Name.{Name}
use Rattle.occ_syntax.specs.declared.expr.Expr.{Expr}
use Rattle.occ_syntax.specs.declared.expr.Guard.{Guard}
use Rattle.occ_syntax.specs.declared.proc.Proc.{Proc}
use Rattle.occ_syntax.specs.declared.scope.Kind.{Kind}
use Rattle.occ_syntax.specs.declared.scope.Kind.TheVariants.{Var, Chan}
use Rattle.occ_syntax.specs.Tree.{Exp, Waiting, Tree, skip, seq, par, select, alt, Trees, no_tree, and_tree, Cases, no_case, and_case, Branches, no_branch, and_branch}
use Rattle.occ_syntax.specs.Declarations.{declaring}
use Rattle.occ_syntax.specs.View.{numbers, exp, waiting, tree, trees, cases, branches}

-- two lists that look alike do so at each place
pub alike_at : {A B : Type 0} (f : A → B) (xs ys : List A) (i : ℕ) (x y : A) → i < length xs → i < length ys → x ≡ get_or xs i x → y ≡ get_or ys i y → map f xs ≡ map f ys → f x ≡ f y
alike_at f xs ys i x y h k d e g =
    ap f d ∙ sym (get_or-map f xs i x (f x) h) ∙ ap (λ zs. get_or zs i (f x)) g ∙ get_or-map f ys i y (f x) k ∙ ap f (sym e)

pub alike_long : {A B : Type 0} (f : A → B) (xs ys : List A) → map f xs ≡ map f ys → length xs ≡ length ys
alike_long f xs ys e = sym (length-map xs f) ∙ ap length e ∙ length-map ys f

pub alike_whole : {A B : Type 0} (f : A → B) (xs ys : List A) (i : ℕ) → length xs ≤ i → length ys ≤ i → map f (take i xs) ≡ map f (take i ys) → map f xs ≡ map f ys
alike_whole f xs ys i h k e = ap (map f) (sym (take_all i xs h)) ∙ e ∙ ap (map f) (take_all i ys k)

-- names with the same numbers are the same
pub numbers_tell : (xs ys : List Name) → numbers xs ≡ numbers ys → xs ≡ ys
numbers_tell [] [] e = refl
numbers_tell [] (y ∷ ys) e = cc
numbers_tell (x ∷ xs) [] e = cc
numbers_tell (x ∷ xs) (y ∷ ys) e =
    let first : x.0 ≡ y.0 = cc in
    let rest : numbers xs ≡ numbers ys = cc in
    let same : x ≡ y = ap (λ n. record { 0 = n }) first in
    ap (λ z. z ∷ xs) same ∙ ap (λ zs. y ∷ zs) (numbers_tell xs ys rest)

-- the row of a list of trees, and back
to_trees : List Tree → Trees
to_trees [] = no_tree
to_trees (p ∷ ps) = and_tree p (to_trees ps)

from_trees : Trees → List Tree
from_trees no_tree = []
from_trees (and_tree p ps) = p ∷ from_trees ps

trees_to : (ps : List Proc) → trees ps ≡ to_trees (map tree ps)
unfolding to_trees
trees_to [] = refl
trees_to (p ∷ ps) = ap (and_tree (tree p)) (trees_to ps)

trees_from : (ps : List Proc) → from_trees (trees ps) ≡ map tree ps
unfolding from_trees
trees_from [] = refl
trees_from (p ∷ ps) = ap (λ qs. tree p ∷ qs) (trees_from ps)

pub same_trees : (ps qs : List Proc) → map tree ps ≡ map tree qs → trees ps ≡ trees qs
same_trees ps qs e = trees_to ps ∙ ap to_trees e ∙ sym (trees_to qs)

pub trees_tell : (ps qs : List Proc) → trees ps ≡ trees qs → map tree ps ≡ map tree qs
trees_tell ps qs e = sym (trees_from ps) ∙ ap from_trees e ∙ trees_from qs

-- a choice as it looks
abbrev pub choice : Expr × Proc → Exp × Tree
choice c = (exp c.0, tree c.1)

to_cases : List (Exp × Tree) → Cases
to_cases [] = no_case
to_cases (c ∷ cs) = and_case c.0 c.1 (to_cases cs)

from_cases : Cases → List (Exp × Tree)
from_cases no_case = []
from_cases (and_case e p cs) = (e, p) ∷ from_cases cs

cases_to : (cs : List (Expr × Proc)) → cases cs ≡ to_cases (map choice cs)
unfolding to_cases
cases_to [] = refl
cases_to (c ∷ cs) = ap (and_case (exp c.0) (tree c.1)) (cases_to cs)

cases_from : (cs : List (Expr × Proc)) → from_cases (cases cs) ≡ map choice cs
unfolding from_cases
cases_from [] = refl
cases_from (c ∷ cs) = ap (λ ds. choice c ∷ ds) (cases_from cs)

pub same_cases : (cs ds : List (Expr × Proc)) → map choice cs ≡ map choice ds → cases cs ≡ cases ds
same_cases cs ds e = cases_to cs ∙ ap to_cases e ∙ sym (cases_to ds)

pub cases_tell : (cs ds : List (Expr × Proc)) → cases cs ≡ cases ds → map choice cs ≡ map choice ds
cases_tell cs ds e = sym (cases_from cs) ∙ ap from_cases e ∙ cases_from ds

-- an alternative as it looks
abbrev pub alternative : Guard × Proc → Exp × Waiting × Tree
alternative b = (exp b.0.condition, waiting b.0.wait, tree b.1)

to_branches : List (Exp × Waiting × Tree) → Branches
to_branches [] = no_branch
to_branches (b ∷ bs) = and_branch b.0 b.1 b.2 (to_branches bs)

from_branches : Branches → List (Exp × Waiting × Tree)
from_branches no_branch = []
from_branches (and_branch e w p bs) = (e, w, p) ∷ from_branches bs

branches_to : (bs : List (Guard × Proc)) → branches bs ≡ to_branches (map alternative bs)
unfolding to_branches
branches_to [] = refl
branches_to (b ∷ bs) = ap (and_branch (exp b.0.condition) (waiting b.0.wait) (tree b.1)) (branches_to bs)

branches_from : (bs : List (Guard × Proc)) → from_branches (branches bs) ≡ map alternative bs
unfolding from_branches
branches_from [] = refl
branches_from (b ∷ bs) = ap (λ ds. alternative b ∷ ds) (branches_from bs)

pub same_branches : (bs ds : List (Guard × Proc)) → map alternative bs ≡ map alternative ds → branches bs ≡ branches ds
same_branches bs ds e = branches_to bs ∙ ap to_branches e ∙ sym (branches_to ds)

pub branches_tell : (bs ds : List (Guard × Proc)) → branches bs ≡ branches ds → map alternative bs ≡ map alternative ds
branches_tell bs ds e = sym (branches_from bs) ∙ ap from_branches e ∙ branches_from ds

-- what a test that failed, or held, says of a fact
pub refuted : {P : Type 0} → (P → ⊥) → IsTrue false ↔ P
refuted wrong = (λ h. absurd (true≢false (sym h)), λ p. absurd (wrong p))

pub refuted_by : {P Q : Type 0} → (P → Q) → (IsTrue false ↔ Q) → IsTrue false ↔ P
refuted_by along test = (λ h. absurd (true≢false (sym h)), λ p. test.1 (along p))

pub confirmed : {P : Type 0} → P → IsTrue true ↔ P
confirmed p = (λ h. p, λ q. refl)

-- where two processes are declarations alike, they are the same where what they govern is
pub further_in : {P : Type 0} (p q b d : Tree) (x y : ℕ) (k j : Kind) → p ≡ declaring x k b → q ≡ declaring y j d → declaring x k skip ≡ declaring y j skip
    → ((p ≡ q) ↔ P) → (b ≡ d) ↔ P
further_in p q b d x y (Var w) (Var v) e f g same =
    (λ h. same.0 (cc), λ r. let u : p ≡ q = same.1 r in cc)
further_in p q b d x y (Var w) (Chan v m) e f g same = cc
further_in p q b d x y (Chan w n) (Var v) e f g same = cc
further_in p q b d x y (Chan w n) (Chan v m) e f g same =
    (λ h. same.0 (cc), λ r. let u : p ≡ q = same.1 r in cc)

-- where two processes are one construct, they are the same where their parts are
pub seq_alike : (b : Bool) (p q : Tree) (ps qs : Trees) → p ≡ seq ps → q ≡ seq qs → (IsTrue b ↔ (ps ≡ qs)) → IsTrue b ↔ (p ≡ q)
seq_alike b p q ps qs e f same = (λ h. e ∙ ap seq (same.0 h) ∙ sym f, λ g. same.1 (cc))

pub par_alike : (b : Bool) (p q : Tree) (ps qs : Trees) → p ≡ par ps → q ≡ par qs → (IsTrue b ↔ (ps ≡ qs)) → IsTrue b ↔ (p ≡ q)
par_alike b p q ps qs e f same = (λ h. e ∙ ap par (same.0 h) ∙ sym f, λ g. same.1 (cc))

pub select_alike : (b : Bool) (p q : Tree) (cs ds : Cases) → p ≡ select cs → q ≡ select ds → (IsTrue b ↔ (cs ≡ ds)) → IsTrue b ↔ (p ≡ q)
select_alike b p q cs ds e f same = (λ h. e ∙ ap select (same.0 h) ∙ sym f, λ g. same.1 (cc))

pub alt_alike : (b : Bool) (p q : Tree) (bs ds : Branches) → p ≡ alt bs → q ≡ alt ds → (IsTrue b ↔ (bs ≡ ds)) → IsTrue b ↔ (p ≡ q)
alt_alike b p q bs ds e f same = (λ h. e ∙ ap alt (same.0 h) ∙ sym f, λ g. same.1 (cc))

-- a copy of all items of a list that has a name
pub copied_whole : {A B : Type 0} (f : A → B) (xs ys zs : List A) (i : ℕ) → length xs ≤ i → xs ≡ ys → map f zs ≡ map f (take i xs) → map f zs ≡ map f ys
copied_whole f xs ys zs i h e so_far = so_far ∙ ap (map f) (take_all i xs h ∙ e)
