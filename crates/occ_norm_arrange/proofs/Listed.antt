-- Lists of parts as code has them.
use Rattle.std.proofs.Common.{◌≡◌, ◌<◌, ◌+◌, ◌-◌, ◌==◌, ℕ, false, List, [], ◌∷◌, ◌++◌, length, take, get_or, refl, sym, ap, ◌∙◌, arith}
use Rattle.std.proofs.lemmas.List.{take_all, take_more}
use Rattle.occ_meaning.specs.Parallel.{all_of}
use Rattle.occ_syntax.specs.Tree.{Tree, Trees, and_tree, no_tree}
use Rattle.occ_syntax.specs.View.{tree, trees}
use Rattle.occ_syntax.specs.declared.proc.Proc.{Proc}

pub all_of_none : (ps : Trees) → all_of ps no_tree ≡ ps
all_of_none no_tree = refl
all_of_none (and_tree p ps) = ap (and_tree p) (all_of_none ps)

pub all_of_three : (ps qs rs : Trees) → all_of ps (all_of qs rs) ≡ all_of (all_of ps qs) rs
all_of_three no_tree qs rs = refl
all_of_three (and_tree p ps) qs rs = ap (and_tree p) (all_of_three ps qs rs)

pub trees_both : (xs ys : List Proc) → trees (xs ++ ys) ≡ all_of (trees xs) (trees ys)
trees_both [] ys = refl
trees_both (x ∷ xs) ys = ap (and_tree (tree x)) (trees_both xs ys)

-- one part is put behind others
pub trees_pushed : (zs ys : List Proc) (y : Proc) (p : Tree) → zs ≡ ys ++ y ∷ [] → tree y ≡ p → trees zs ≡ all_of (trees ys) (and_tree p no_tree)
trees_pushed zs ys y p e f = ap trees e ∙ trees_both ys (y ∷ []) ∙ ap (λ q. all_of (trees ys) (and_tree q no_tree)) f

-- the parts in front of a place, and the one there
pub trees_more : (xs : List Proc) (i : ℕ) (x : Proc) → i < length xs → x ≡ get_or xs i x → trees (take (i + 1) xs) ≡ all_of (trees (take i xs)) (and_tree (tree x) no_tree)
trees_more xs i x h e = ap trees (take_more xs i x h) ∙ trees_both (take i xs) (get_or xs i x ∷ []) ∙ ap (λ y. all_of (trees (take i xs)) (and_tree (tree y) no_tree)) (sym e)

-- one more part is copied
pub copied_more : (ps : Trees) (zs ys xs : List Proc) (i : ℕ) (x y : Proc) → i < length xs → x ≡ get_or xs i x → tree y ≡ tree x → zs ≡ ys ++ y ∷ []
    → trees ys ≡ all_of ps (trees (take i xs)) → trees zs ≡ all_of ps (trees (take (i + 1) xs))
copied_more ps zs ys xs i x y h e f g so_far =
    trees_pushed zs ys y (tree x) g f
    ∙ ap (λ qs. all_of qs (and_tree (tree x) no_tree)) so_far
    ∙ sym (all_of_three ps (trees (take i xs)) (and_tree (tree x) no_tree))
    ∙ ap (all_of ps) (sym (trees_more xs i x h e))

-- all parts, by those in front of the last one and that
pub trees_last : (xs : List Proc) (i : ℕ) (x : Proc) → i + 1 ≡ length xs → x ≡ get_or xs i x → trees xs ≡ all_of (trees (take i xs)) (and_tree (tree x) no_tree)
trees_last xs i x h e = ap trees (sym (take_all (i + 1) xs (omega (arith, h)))) ∙ trees_more xs i x (omega (arith, h)) e

-- a list that isn't empty has a last place
pub last_place : (xs : List Proc) → (length xs == 0) ≡ false → length xs - 1 + 1 ≡ length xs
last_place [] h = absurd (cc)
last_place (x ∷ xs) h = omega arith

-- a list of one part
pub trees_one : (xs : List Proc) (x y : Proc) → length xs ≡ 1 → x ≡ get_or xs 0 x → tree y ≡ tree x → trees xs ≡ and_tree (tree y) no_tree
trees_one [] x y h e f = absurd (cc)
trees_one (z ∷ []) x y h e f = ap (λ q. and_tree q no_tree) (sym (f ∙ ap tree e))
trees_one (z ∷ w ∷ xs) x y h e f = absurd (omega (arith, h))
