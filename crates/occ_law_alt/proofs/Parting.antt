-- Lists of branches parted at a place: there is one way to part a list at a place.
use Rattle.std.proofs.Common.{◌≡◌, ℕ, ◌-◌, ◌<◌, ◌≤◌, List, [], ◌∷◌, length, take, drop, length-drop, refl, ap, sym, ◌∙◌, arith}
use Rattle.std.proofs.Math.Seq.{take-length}
use Rattle.std.proofs.lemmas.List.{take-append-drop, length-take-le}
use Rattle.occ_syntax.specs.declared.expr.Guard.{Guard}
use Rattle.occ_syntax.specs.declared.proc.Proc.{Proc}
use Rattle.occ_syntax.specs.Tree.{Exp, Waiting, Tree, alt, Branches, no_branch, and_branch}
use Rattle.occ_syntax.specs.View.{branches}
use Rattle.occ_law_shape.specs.occ_law.Lists.{all_branches, tally}
use Rattle.occ_law_alt.proofs.Begun.{alt_tells, branch_is, branches-append, conditions_are, guards_are, processes_are, rests_are}

-- three lists in one
pub all_branches-all : (gs hs ks : Branches) → all_branches (all_branches gs hs) ks ≡ all_branches gs (all_branches hs ks)
all_branches-all no_branch hs ks = refl
all_branches-all (and_branch b w p gs) hs ks = ap (and_branch b w p) (all_branches-all gs hs ks)

tally-branches : (l : List (Guard × Proc)) → tally (branches l) ≡ length l
tally-branches [] = refl
tally-branches (x ∷ l) = omega (arith, tally-branches l)

tally-all : (gs hs : Branches) → tally gs ≤ tally (all_branches gs hs)
tally-all no_branch hs = omega arith
tally-all (and_branch b w p gs) hs = omega (arith, tally-all gs hs)

-- lists with fronts of one size are equal piece by piece
pub one_place : (gs hs xs ys : Branches) → all_branches gs hs ≡ all_branches xs ys → tally gs ≡ tally xs → (gs ≡ xs) × (hs ≡ ys)
one_place no_branch hs no_branch ys e n = (refl, e)
one_place no_branch hs (and_branch b w p xs) ys e n = absurd (omega (arith, n))
one_place (and_branch b w p gs) hs no_branch ys e n = absurd (omega (arith, n))
one_place (and_branch b w p gs) hs (and_branch c v q xs) ys e n =
    let m : tally gs ≡ tally xs = omega (arith, n) in
    let k = one_place gs hs xs ys (rests_are _ _ _ _ _ _ _ _ e) m in
    (branch_is (conditions_are _ _ _ _ _ _ _ _ e) (guards_are _ _ _ _ _ _ _ _ e) (processes_are _ _ _ _ _ _ _ _ e) k.0, k.1)

-- the heads of two lists of sizes
pub heads_are : (j k : ℕ) (js ks : List ℕ) → j ∷ js ≡ k ∷ ks → j ≡ k
heads_are j k js ks e = cc

pub tails_are : (j k : ℕ) (js ks : List ℕ) → j ∷ js ≡ k ∷ ks → js ≡ ks
tails_are j k js ks e = cc

-- ---- a list as code parts it

to_end : (l : List (Guard × Proc)) (k : ℕ) → take (length l - k) (drop k l) ≡ drop k l
to_end l k = ap (λ n. take n (drop k l)) (sym (length-drop k l)) ∙ take-length (drop k l)

pub parted_is : (l : List (Guard × Proc)) (k : ℕ) → branches l ≡ all_branches (branches (take k l)) (branches (take (length l - k) (drop k l)))
parted_is l k = sym (ap branches (take-append-drop k l)) ∙ branches-append (take k l) (drop k l) ∙ ap (λ z. all_branches (branches (take k l)) (branches z)) (sym (to_end l k))

pub front_size : (l : List (Guard × Proc)) (k : ℕ) → k ≤ length l → k ≡ tally (branches (take k l))
front_size l k h = sym (tally-branches (take k l) ∙ length-take-le k l h)

pub too_short : (l : List (Guard × Proc)) (k : ℕ) → length l < k → (fs hs : Branches) → branches l ≡ all_branches fs hs → k ≡ tally fs → ⊥
too_short l k h fs hs e n = omega (arith, h, n, tally-all fs hs, ap tally e, tally-branches l)

-- where nothing stands from a place on, no branch stands at it
pub chosen_never : (xs gs hs : Branches) (k : ℕ) → xs ≡ all_branches gs hs → k ≡ tally gs → ((b : Exp) (w : Waiting) (p : Tree) (is : Branches) → hs ≡ and_branch b w p is → ⊥)
    → (fs is : Branches) (b : Exp) (w : Waiting) (p : Tree) → xs ≡ all_branches fs (and_branch b w p is) → k ≡ tally fs → ⊥
chosen_never xs gs hs k e n never fs is b w p f m = never b w p is (one_place gs hs fs (and_branch b w p is) (sym e ∙ f) (sym n ∙ m)).1

-- where no branch stands at the second place, there are no two
pub around_never : (ks : List ℕ) (l : Tree) (xs gs hs : Branches) (j k : ℕ) (a : Exp) (s : Waiting) (m : Tree) → l ≡ alt xs → ks ≡ j ∷ k ∷ [] → xs ≡ all_branches gs (and_branch a s m hs) → j ≡ tally gs
    → ((fs is : Branches) (b : Exp) (w : Waiting) (p : Tree) → hs ≡ all_branches fs (and_branch b w p is) → k ≡ tally fs → ⊥)
    → (fs is js : Branches) (b c : Exp) (v w : Waiting) (p q : Tree) → l ≡ alt (all_branches fs (and_branch b v p (all_branches is (and_branch c w q js)))) → ks ≡ tally fs ∷ tally is ∷ [] → ⊥
around_never ks l xs gs hs j k a s m e n f i never fs is js b c v w p q g o =
    let r : (gs ≡ fs) × (and_branch a s m hs ≡ and_branch b v p (all_branches is (and_branch c w q js))) =
    one_place gs _ fs _ (sym f ∙ alt_tells _ _ (sym e ∙ g)) (sym i ∙ heads_are _ _ _ _ (sym n ∙ o)) in
    never is js c w q (rests_are _ _ _ _ _ _ _ _ r.1) (heads_are _ _ [] [] (tails_are _ _ _ _ (sym n ∙ o)))
