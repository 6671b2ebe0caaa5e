-- seq-none and seq-one by the parts of the left side.
use Rattle.std.proofs.Common.{◌≡◌, ℕ, ◌↔◌, Bool, IsTrue, List, [], ◌∷◌, length, refl, ap, sym, ◌∙◌, subst, arith}
use Rattle.occ_syntax.specs.declared.proc.Proc.{Proc}
use Rattle.occ_syntax.specs.Tree.{Tree, seq, skip, Trees, no_tree}
use Rattle.occ_syntax.specs.View.{trees}
use Rattle.occ_law_shape.specs.occ_meaning.Parallel.{one}
use Rattle.occ_law_shape.specs.occ_law.Sequence.{SeqNone, seq_none, SeqOne, seq_one}
use Rattle.occ_law_shape.proofs.Fronts.{trees_none}

none_there : (parts : List Proc) → length parts ≡ 0 → trees parts ≡ no_tree
none_there [] h = refl
none_there (p ∷ ps) h = absurd (omega (arith, h))

none_to : (xs : Trees) (l r : Tree) → l ≡ seq xs → (place : List ℕ) → SeqNone place l r → xs ≡ no_tree
none_to xs l r e place seq_none = cc

-- seq-none is a list without parts
pub none_law : (parts : List Proc) (l r : Tree) (b : Bool) → l ≡ seq (trees parts) → r ≡ skip → (IsTrue b ↔ (length parts ≡ 0)) → IsTrue b ↔ ((place : List ℕ) × SeqNone place l r)
none_law parts l r b e f test = (
  (λ h. ([], subst (λ z. SeqNone [] z r) (sym (e ∙ ap seq (none_there parts (test.0 h)))) (subst (λ z. SeqNone [] (seq no_tree) z) (sym f) seq_none))),
  (λ k. test.1 (trees_none parts (none_to (trees parts) l r e k.0 k.1))),
)

one_to : (xs : Trees) (l r : Tree) → l ≡ seq xs → (place : List ℕ) → SeqOne place l r → xs ≡ one r
one_to xs l r e place (seq_one p) = cc

-- seq-one is a list of one part, which is the right side
pub one_law : (xs : Trees) (p l r : Tree) (b : Bool) → l ≡ seq xs → xs ≡ one p → (IsTrue b ↔ (p ≡ r)) → IsTrue b ↔ ((place : List ℕ) × SeqOne place l r)
one_law xs p l r b e f test = (
  (λ h. ([], subst (λ z. SeqOne [] z r) (sym (e ∙ ap seq f)) (subst (λ z. SeqOne [] (seq (one p)) z) (test.0 h) (seq_one p)))),
  (λ k. test.1 (inner p r (sym f ∙ one_to xs l r e k.0 k.1))),
)
  where
    inner : (p r : Tree) → one p ≡ one r → p ≡ r
    inner p r g = cc

pub not_one : (xs : Trees) (l r : Tree) → l ≡ seq xs → ((p : Tree) → xs ≡ one p → ⊥) → (place : List ℕ) × SeqOne place l r → ⊥
not_one xs l r e never k = never r (one_to xs l r e k.0 k.1)
