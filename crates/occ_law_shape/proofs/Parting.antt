-- Where a list of parts is parted.
use Rattle.std.proofs.Common.{◌≡◌, ℕ, ◌+◌, ◌-◌, ◌<◌, ◌≤◌, arith, refl, ap, sym, ◌∙◌, List, [], ◌∷◌, ◌++◌, length, get_or, take, drop, drop-cons, length-drop, suc}
use Rattle.std.proofs.Math.Seq.{take-length}
use Rattle.std.proofs.lemmas.List.{length-take-le, take-append-drop}
use Rattle.occ_syntax.specs.declared.proc.Proc.{Proc}
use Rattle.occ_syntax.specs.Tree.{Tree, Trees, no_tree, and_tree}
use Rattle.occ_syntax.specs.View.{tree, trees}
use Rattle.occ_law.specs.occ_meaning.Parallel.{all_of}
use Rattle.occ_law.specs.Lists.{size}
use Rattle.occ_law_shape.proofs.Parts.{size-all_of}

counted : (l : List Proc) → size (trees l) ≡ length l
counted [] = refl
counted (x ∷ l) = omega (arith, counted l)

-- ---- two parted lists that are equal

pub first_is : {p q : Tree} {ps qs : Trees} → and_tree p ps ≡ and_tree q qs → p ≡ q
first_is e = cc

pub others_are : {p q : Tree} {ps qs : Trees} → and_tree p ps ≡ and_tree q qs → ps ≡ qs
others_are e = cc

pub one_front : (ps qs rs us : Trees) → size ps ≡ size rs → all_of ps qs ≡ all_of rs us → (ps ≡ rs) × (qs ≡ us)
one_front no_tree qs no_tree us n e = (refl, e)
one_front no_tree qs (and_tree r rs) us n e = absurd (omega (arith, n))
one_front (and_tree p ps) qs no_tree us n e = absurd (omega (arith, n))
one_front (and_tree p ps) qs (and_tree r rs) us n e =
    let m : size ps ≡ size rs = omega (arith, n) in
    let k = one_front ps qs rs us m (others_are e) in
    (ap (λ z. and_tree z ps) (first_is e) ∙ ap (and_tree r) k.0, k.1)

pub sizes_are : {j k : ℕ} → j ∷ [] ≡ k ∷ [] → j ≡ k
sizes_are e = cc

-- ---- the part at a place

pub none_at : (parts : List Proc) (k : ℕ) → length parts ≤ k → (ps qs : Trees) (p : Tree) → trees parts ≡ all_of ps (and_tree p qs) → k ≡ size ps → ⊥
none_at parts k h ps qs p e n =
    let m : length parts ≡ size ps + size (and_tree p qs) = sym (counted parts) ∙ ap size e ∙ size-all_of ps (and_tree p qs) in
    omega (arith, n, m, h)

trees-append : (xs ys : List Proc) → trees (xs ++ ys) ≡ all_of (trees xs) (trees ys)
trees-append [] ys = refl
trees-append (x ∷ xs) ys = ap (and_tree (tree x)) (trees-append xs ys)

to_end : (xs : List Proc) (k : ℕ) → take (length xs - k) (drop k xs) ≡ drop k xs
to_end xs k = ap (λ n. take n (drop k xs)) (sym (length-drop k xs)) ∙ take-length (drop k xs)

from_place : (xs : List Proc) (k : ℕ) (x : Proc) → k < length xs → x ≡ get_or xs k x → trees (drop k xs) ≡ and_tree (tree x) (trees (take (length xs - (k + 1)) (drop (k + 1) xs)))
from_place xs k x h e =
    let j : suc k ≡ k + 1 = omega arith in
    ap trees (drop-cons xs k x h ∙ ap (λ z. z ∷ drop (suc k) xs) (sym e)) ∙ ap (λ n. and_tree (tree x) (trees (drop n xs))) j
    ∙ ap (λ z. and_tree (tree x) (trees z)) (sym (to_end xs (k + 1)))

pub parted_at : (xs : List Proc) (k : ℕ) (x : Proc) → k < length xs → x ≡ get_or xs k x
    → trees xs ≡ all_of (trees (take k xs)) (and_tree (tree x) (trees (take (length xs - (k + 1)) (drop (k + 1) xs))))
parted_at xs k x h is = sym (ap trees (take-append-drop k xs)) ∙ trees-append (take k xs) (drop k xs) ∙ ap (all_of (trees (take k xs))) (from_place xs k x h is)

pub front_size : (xs : List Proc) (k : ℕ) → k < length xs → k ≡ size (trees (take k xs))
front_size xs k h =
    let within : k ≤ length xs = omega (arith, h) in
    sym (counted (take k xs) ∙ length-take-le k xs within)
