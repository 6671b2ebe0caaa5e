-- Where the parts of a SEQ are parted.
use Rattle.std.proofs.Common.{◌≡◌, ℕ, refl, ap, sym, ◌∙◌, List, [], ◌∷◌}
use Rattle.occ_syntax.specs.Tree.{Tree, seq, Trees, and_tree}
use Rattle.occ_law_scope.specs.occ_meaning.Parallel.{all_of}
use Rattle.occ_law_seq.specs.occ_law.Lists.{size}
use Rattle.occ_law_right.specs.Chosen.{IsSplit}
use Rattle.occ_law_seq.proofs.from_law_shape.Parting.{first_is, one_front, others_are, sizes_are}

pub parts_are : {ps qs : Trees} → seq ps ≡ seq qs → ps ≡ qs
parts_are e = cc

pub itself : (ps : Trees) (p : Tree) (qs : Trees) → IsSplit (size ps ∷ []) (seq (all_of ps (and_tree p qs))) ps p qs
itself ps p qs = record { sizes = refl; whole = refl }

-- a SEQ is parted at one place in one way
pub one_split : (ks : List ℕ) (l : Tree) (ps qs rs us : Trees) (p r : Tree) → IsSplit ks l ps p qs → IsSplit ks l rs r us → (ps ≡ rs) × (p ≡ r) × (qs ≡ us)
one_split ks l ps qs rs us p r s t =
    let k = one_front ps (and_tree p qs) rs (and_tree r us) (sizes_are (sym s.sizes ∙ t.sizes)) (parts_are (sym s.whole ∙ t.whole)) in
    (k.0, first_is k.1, others_are k.1)

-- ---- the part at a place

pub none_there : (ks : List ℕ) (l : Tree) (all : Trees) (k : ℕ) → ks ≡ k ∷ [] → l ≡ seq all → ((ps qs : Trees) (p : Tree) → all ≡ all_of ps (and_tree p qs) → k ≡ size ps → ⊥)
    → (ps : Trees) (p : Tree) (qs : Trees) → IsSplit ks l ps p qs → ⊥
none_there ks l all k d e never ps p qs s = never ps qs p (parts_are (sym e ∙ s.whole)) (sizes_are (sym d ∙ s.sizes))

pub part_there : (ks : List ℕ) (l : Tree) (all ps : Trees) (p : Tree) (qs : Trees) (k : ℕ) → ks ≡ k ∷ [] → l ≡ seq all → all ≡ all_of ps (and_tree p qs) → k ≡ size ps
    → IsSplit ks l ps p qs
part_there ks l all ps p qs k d e f n = record { sizes = d ∙ ap (λ z. z ∷ []) n; whole = e ∙ ap seq f }
