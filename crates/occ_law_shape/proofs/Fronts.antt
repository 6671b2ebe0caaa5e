-- The front of a slice, as a list of trees.
use Rattle.std.proofs.Common.{◌≡◌, ℕ, ◌<◌, ◌-◌, ◌==◌, ◌↔◌, Bool, IsTrue, List, [], ◌∷◌, length, get_or, take, drop, arith, refl, ap, sym, ◌∙◌}
use Rattle.std.proofs.Math.Seq.{take-length}
use Rattle.std.proofs.lemmas.Bool.{eqb-true}
use Rattle.occ_syntax.specs.declared.expr.Expr.{Expr}
use Rattle.occ_syntax.specs.declared.expr.Guard.{Guard}
use Rattle.occ_syntax.specs.declared.proc.Proc.{Proc}
use Rattle.occ_syntax.specs.Tree.{Exp, Waiting, Tree, Trees, no_tree, and_tree, Cases, no_case, and_case, Branches, no_branch, and_branch}
use Rattle.occ_law.specs.occ_meaning.Parallel.{all_of}
use Rattle.occ_law_shape.specs.Pieces.{each_branch, each_choice}
use Rattle.occ_syntax.specs.View.{exp, exps, waiting, tree, trees, cases, branches}

-- a list with a first item is that item and the rest
pub front_is : {A : Type 0} (l : List A) (x : A) → 0 < length l → x ≡ get_or l 0 x → l ≡ x ∷ take (length l - 1) (drop 1 l)
front_is [] x h e = absurd (omega (arith, h))
front_is (y ∷ l) x h e =
    let n : length (y ∷ l) - 1 ≡ length l = omega arith in
    ap (λ z. z ∷ l) (sym e) ∙ ap (λ r. x ∷ r) (sym (take-length l)) ∙ ap (λ k. x ∷ take k l) (sym n)

-- a list without a first item is empty
pub empty_is : {A : Type 0} (l : List A) → length l < 1 → l ≡ []
empty_is [] h = refl
empty_is (x ∷ l) h = absurd (omega (arith, h))

-- ---- lists by their trees

pub trees_none : (ps : List Proc) → trees ps ≡ no_tree → length ps ≡ 0
trees_none [] e = refl
trees_none (p ∷ ps) e = cc

pub trees_one : (ps : List Proc) (p : Tree) → trees ps ≡ and_tree p no_tree → length ps ≡ 1
trees_one [] p e = cc
trees_one (q ∷ qs) p e =
    let f : trees qs ≡ no_tree = cc in
    omega (arith, trees_none qs f)

pub trees_two : (ps : List Proc) (p q : Tree) → trees ps ≡ and_tree p (and_tree q no_tree) → length ps ≡ 2
trees_two [] p q e = cc
trees_two (r ∷ rs) p q e =
    let f : trees rs ≡ and_tree q no_tree = cc in
    omega (arith, trees_one rs q f)

-- the front of a slice of processes, and its end
pub trees_front : (l : List Proc) (x : Proc) → 0 < length l → x ≡ get_or l 0 x → trees l ≡ and_tree (tree x) (trees (take (length l - 1) (drop 1 l)))
trees_front l x h e = ap trees (front_is l x h e)

pub trees_end : (l : List Proc) → length l < 1 → trees l ≡ no_tree
trees_end l h = ap trees (empty_is l h)

-- ---- behind a front

pub behind_step : (first all xs ys : Trees) (p q : Tree) (ps qs : Trees) → xs ≡ and_tree p ps → ys ≡ and_tree q qs → p ≡ q
    → ((r : Trees) → (ys ≡ all_of xs r) ↔ (all ≡ all_of first r)) → (r : Trees) → (qs ≡ all_of ps r) ↔ (all ≡ all_of first r)
behind_step first all xs ys p q ps qs e f g same r = (
  (λ h. (same r).0 (f ∙ ap (and_tree q) h ∙ ap (λ z. and_tree z (all_of ps r)) (sym g) ∙ ap (λ z. all_of z r) (sym e))),
  (λ k. let u : and_tree q qs ≡ and_tree p (all_of ps r) = sym f ∙ (same r).1 k ∙ ap (λ z. all_of z r) e in cc),
)

pub behind_differs : (first all xs ys : Trees) (p q : Tree) (ps qs : Trees) → xs ≡ and_tree p ps → ys ≡ and_tree q qs → (p ≡ q → ⊥)
    → ((r : Trees) → (ys ≡ all_of xs r) ↔ (all ≡ all_of first r)) → (r : Trees) → all ≡ all_of first r → ⊥
behind_differs first all xs ys p q ps qs e f g same r k =
    let u : and_tree q qs ≡ and_tree p (all_of ps r) = sym f ∙ (same r).1 k ∙ ap (λ z. all_of z r) e in
    let v : p ≡ q = cc in
    g v

pub behind_ends : (first all xs ys : Trees) (p : Tree) (ps : Trees) → xs ≡ and_tree p ps → ys ≡ no_tree
    → ((r : Trees) → (ys ≡ all_of xs r) ↔ (all ≡ all_of first r)) → (r : Trees) → all ≡ all_of first r → ⊥
behind_ends first all xs ys p ps e f same r k =
    let u : no_tree ≡ and_tree p (all_of ps r) = sym f ∙ (same r).1 k ∙ ap (λ z. all_of z r) e in cc

pub behind_whole : (first all xs ys : Trees) → xs ≡ no_tree → ((r : Trees) → (ys ≡ all_of xs r) ↔ (all ≡ all_of first r)) → all ≡ all_of first ys
behind_whole first all xs ys e same = (same ys).0 (ap (λ z. all_of z ys) (sym e))

-- ---- lists made piece by piece

pub choice_step : {P : Type 0} (f : Exp → Exp) (g : Tree → Tree) (xs ys : Cases) (b c : Exp) (p q : Tree) (cs ds : Cases) → xs ≡ and_case b p cs → ys ≡ and_case c q ds
    → c ≡ f b → q ≡ g p → ((ys ≡ each_choice f g xs) ↔ P) → (ds ≡ each_choice f g cs) ↔ P
choice_step f g xs ys b c p q cs ds e h k m same = (
  (λ r. same.0 (h ∙ ap (and_case c q) r ∙ ap (λ z. and_case z q (each_choice f g cs)) k ∙ ap (λ z. and_case (f b) z (each_choice f g cs)) m ∙ ap (each_choice f g) (sym e))),
  (λ r. let u : and_case c q ds ≡ and_case (f b) (g p) (each_choice f g cs) = sym h ∙ same.1 r ∙ ap (each_choice f g) e in cc),
)

pub choice_differs : {P : Type 0} (f : Exp → Exp) (g : Tree → Tree) (xs ys : Cases) (b c : Exp) (p q : Tree) (cs ds : Cases) → xs ≡ and_case b p cs → ys ≡ and_case c q ds
    → ((c ≡ f b) × (q ≡ g p) → ⊥) → ((ys ≡ each_choice f g xs) ↔ P) → P → ⊥
choice_differs f g xs ys b c p q cs ds e h wrong same r =
    let u : and_case c q ds ≡ and_case (f b) (g p) (each_choice f g cs) = sym h ∙ same.1 r ∙ ap (each_choice f g) e in
    let v : c ≡ f b = cc in
    let w : q ≡ g p = cc in
    wrong (v, w)

pub choice_ends : {P : Type 0} (f : Exp → Exp) (g : Tree → Tree) (xs ys : Cases) (b : Exp) (p : Tree) (cs : Cases) → xs ≡ and_case b p cs → ys ≡ no_case
    → ((ys ≡ each_choice f g xs) ↔ P) → P → ⊥
choice_ends f g xs ys b p cs e h same r =
    let u : no_case ≡ and_case (f b) (g p) (each_choice f g cs) = sym h ∙ same.1 r ∙ ap (each_choice f g) e in cc

pub cases_front : (l : List (Expr × Proc)) (x : Expr × Proc) → 0 < length l → x ≡ get_or l 0 x → cases l ≡ and_case (exp x.0) (tree x.1) (cases (take (length l - 1) (drop 1 l)))
cases_front l x h e = ap cases (front_is l x h e)

pub cases_end : (l : List (Expr × Proc)) → length l < 1 → cases l ≡ no_case
cases_end l h = ap cases (empty_is l h)

pub branch_step : {P : Type 0} (f : Exp → Exp) (j : Waiting → Waiting) (g : Waiting → Tree → Tree) (xs ys : Branches) (b c : Exp) (v w : Waiting) (p q : Tree) (cs ds : Branches)
    → xs ≡ and_branch b v p cs → ys ≡ and_branch c w q ds → c ≡ f b → w ≡ j v → q ≡ g v p → ((ys ≡ each_branch f j g xs) ↔ P) → (ds ≡ each_branch f j g cs) ↔ P
branch_step f j g xs ys b c v w p q cs ds e h k n m same = (
  (λ r. same.0 (h ∙ ap (and_branch c w q) r ∙ ap (λ z. and_branch z w q (each_branch f j g cs)) k ∙ ap (λ z. and_branch (f b) z q (each_branch f j g cs)) n
      ∙ ap (λ z. and_branch (f b) (j v) z (each_branch f j g cs)) m ∙ ap (each_branch f j g) (sym e))),
  (λ r. let u : and_branch c w q ds ≡ and_branch (f b) (j v) (g v p) (each_branch f j g cs) = sym h ∙ same.1 r ∙ ap (each_branch f j g) e in cc),
)

pub branch_differs : {P : Type 0} (f : Exp → Exp) (j : Waiting → Waiting) (g : Waiting → Tree → Tree) (xs ys : Branches) (b c : Exp) (v w : Waiting) (p q : Tree) (cs ds : Branches)
    → xs ≡ and_branch b v p cs → ys ≡ and_branch c w q ds → ((c ≡ f b) × (w ≡ j v) × (q ≡ g v p) → ⊥) → ((ys ≡ each_branch f j g xs) ↔ P) → P → ⊥
branch_differs f j g xs ys b c v w p q cs ds e h wrong same r =
    let u : and_branch c w q ds ≡ and_branch (f b) (j v) (g v p) (each_branch f j g cs) = sym h ∙ same.1 r ∙ ap (each_branch f j g) e in
    let k : c ≡ f b = cc in
    let n : w ≡ j v = cc in
    let m : q ≡ g v p = cc in
    wrong (k, n, m)

pub branch_ends : {P : Type 0} (f : Exp → Exp) (j : Waiting → Waiting) (g : Waiting → Tree → Tree) (xs ys : Branches) (b : Exp) (v : Waiting) (p : Tree) (cs : Branches)
    → xs ≡ and_branch b v p cs → ys ≡ no_branch → ((ys ≡ each_branch f j g xs) ↔ P) → P → ⊥
branch_ends f j g xs ys b v p cs e h same r =
    let u : no_branch ≡ and_branch (f b) (j v) (g v p) (each_branch f j g cs) = sym h ∙ same.1 r ∙ ap (each_branch f j g) e in cc

pub branches_front : (l : List (Guard × Proc)) (x : Guard × Proc) → 0 < length l → x ≡ get_or l 0 x
    → branches l ≡ and_branch (exp x.0.condition) (waiting x.0.wait) (tree x.1) (branches (take (length l - 1) (drop 1 l)))
branches_front l x h e = ap branches (front_is l x h e)

pub branches_end : (l : List (Guard × Proc)) → length l < 1 → branches l ≡ no_branch
branches_end l h = ap branches (empty_is l h)

-- ---- lists of expressions

pub exps_front : (l : List Expr) (x : Expr) → 0 < length l → x ≡ get_or l 0 x → exps l ≡ exp x ∷ exps (take (length l - 1) (drop 1 l))
exps_front l x h e = ap exps (front_is l x h e)

pub exps_end : (l : List Expr) → length l < 1 → exps l ≡ []
exps_end l h = ap exps (empty_is l h)

-- ---- at the end of two lists, of which the first is empty

pub cases_whole : {P : Type 0} (f : Exp → Exp) (g : Tree → Tree) (xs : Cases) (rest : List (Expr × Proc)) (b : Bool) → xs ≡ no_case → ((cases rest ≡ each_choice f g xs) ↔ P)
    → (IsTrue b ↔ (length rest ≡ 0)) → IsTrue b ↔ P
cases_whole f g xs rest b e same test =
    ((λ h. same.0 (none_there rest (test.0 h) ∙ ap (each_choice f g) (sym e))), (λ r. test.1 (nothing rest (same.1 r ∙ ap (each_choice f g) e))))
  where
    none_there : (rest : List (Expr × Proc)) → length rest ≡ 0 → cases rest ≡ no_case
    none_there [] h = refl
    none_there (p ∷ ps) h = absurd (omega (arith, h))

    nothing : (rest : List (Expr × Proc)) → cases rest ≡ no_case → length rest ≡ 0
    nothing [] h = refl
    nothing (p ∷ ps) h = cc

pub branches_whole : {P : Type 0} (f : Exp → Exp) (j : Waiting → Waiting) (g : Waiting → Tree → Tree) (xs : Branches) (rest : List (Guard × Proc)) (b : Bool) → xs ≡ no_branch
    → ((branches rest ≡ each_branch f j g xs) ↔ P) → (IsTrue b ↔ (length rest ≡ 0)) → IsTrue b ↔ P
branches_whole f j g xs rest b e same test =
    ((λ h. same.0 (none_there rest (test.0 h) ∙ ap (each_branch f j g) (sym e))), (λ r. test.1 (nothing rest (same.1 r ∙ ap (each_branch f j g) e))))
  where
    none_there : (rest : List (Guard × Proc)) → length rest ≡ 0 → branches rest ≡ no_branch
    none_there [] h = refl
    none_there (p ∷ ps) h = absurd (omega (arith, h))

    nothing : (rest : List (Guard × Proc)) → branches rest ≡ no_branch → length rest ≡ 0
    nothing [] h = refl
    nothing (p ∷ ps) h = cc

-- a test of a length as a fact
pub test_of : (b : Bool) (n : ℕ) → b ≡ (n == 0) → IsTrue b ↔ (n ≡ 0)
test_of b n e = ((λ h. eqb-true n 0 (sym e ∙ h)), (λ h. e ∙ ap (λ k. k == 0) h))
