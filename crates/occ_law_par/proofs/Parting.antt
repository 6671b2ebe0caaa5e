-- Where lists of parts are parted.
use Rattle.std.proofs.Common.{◌≡◌, ℕ, arith, refl, ap, sym, ◌∙◌, List, [], ◌∷◌, length}
use Rattle.occ_syntax.specs.declared.proc.Proc.{Proc}
use Rattle.occ_syntax.specs.Tree.{Exp, Tree, assign, seq, par, Trees, no_tree, and_tree}
use Rattle.occ_syntax.specs.View.{trees}
use Rattle.occ_law_shape.specs.occ_meaning.Parallel.{all_of, two}
use Rattle.occ_law_shape.specs.occ_law.Lists.{size}
use Rattle.occ_law_par.specs.Parts.{IsSplit, IsWhole}
use Rattle.occ_law_shape.proofs.Parting.{first_is, one_front, others_are, sizes_are}

pub no_parts : (l : List Proc) → length l ≡ 0 → trees l ≡ no_tree
no_parts [] e = refl
no_parts (x ∷ l) e = absurd (omega (arith, e))

pub parts_are : {ps qs : Trees} → par ps ≡ par qs → ps ≡ qs
parts_are e = cc

-- a PAR is parted at one place in one way
pub one_split : (ks : List ℕ) (l : Tree) (ps qs rs ss : Trees) → IsSplit ks l ps qs → IsSplit ks l rs ss → (ps ≡ rs) × (qs ≡ ss)
one_split ks l ps qs rs ss s t = one_front ps qs rs ss (sizes_are (sym s.front ∙ t.front)) (parts_are (sym s.whole ∙ t.whole))

-- the same PAR, with its parts in other words
pub renamed : (ks : List ℕ) (l : Tree) (ps qs : Trees) → IsWhole ks l ps → ps ≡ qs → IsWhole ks l qs
renamed ks l ps qs w e = record { none = w.none; whole = w.whole ∙ ap par e }

-- a PAR of two has one first part and one second part
pub one_pair : (ks : List ℕ) (l : Tree) (p q r s : Tree) → IsWhole ks l (two p q) → IsWhole ks l (two r s) → (p ≡ r) × (q ≡ s)
one_pair ks l p q r s v w = let e = parts_are (sym v.whole ∙ w.whole) in (first_is e, first_is (others_are e))

-- ---- the part at a place

pub none_there : (ks : List ℕ) (l : Tree) (all : Trees) (k : ℕ) → ks ≡ k ∷ [] → l ≡ par all → ((ps qs : Trees) (p : Tree) → all ≡ all_of ps (and_tree p qs) → k ≡ size ps → ⊥)
    → (ps qs : Trees) (p : Tree) → IsSplit ks l ps (and_tree p qs) → ⊥
none_there ks l all k d e never ps qs p s = never ps qs p (parts_are (sym e ∙ s.whole)) (sizes_are (sym d ∙ s.front))

pub part_there : (ks : List ℕ) (l : Tree) (all ps qs : Trees) (p : Tree) (k : ℕ) → ks ≡ k ∷ [] → l ≡ par all → all ≡ all_of ps (and_tree p qs) → k ≡ size ps
    → IsSplit ks l ps (and_tree p qs)
part_there ks l all ps qs p k d e f n = record { front = d ∙ ap (λ z. z ∷ []) n; whole = e ∙ ap par f }

-- ---- a SEQ that begins with an assignment

pub not_begun : (l : Tree) (ps : Trees) (p : Tree) (qs : Trees) → l ≡ seq ps → ps ≡ and_tree p qs → ((xs : List ℕ) (es : List Exp) → p ≡ assign xs es → ⊥)
    → (xs : List ℕ) (es : List Exp) (rs : Trees) → l ≡ seq (and_tree (assign xs es) rs) → ⊥
not_begun l ps p qs e f never xs es rs g =
    let u : seq (and_tree p qs) ≡ seq (and_tree (assign xs es) rs) = ap seq (sym f) ∙ sym e ∙ g in
    let v : p ≡ assign xs es = cc in
    never xs es v

pub nothing_begun : (l : Tree) (ps : Trees) → l ≡ seq ps → ps ≡ no_tree → (xs : List ℕ) (es : List Exp) (rs : Trees) → l ≡ seq (and_tree (assign xs es) rs) → ⊥
nothing_begun l ps e f xs es rs g = let u : seq no_tree ≡ seq (and_tree (assign xs es) rs) = ap seq (sym f) ∙ sym e ∙ g in cc
