-- par-none, par-one and par-stop by the parts of their sides.
use Rattle.std.proofs.Common.{◌≡◌, ℕ, ◌↔◌, Bool, IsTrue, List, [], ◌∷◌, length, refl, sym, ◌∙◌, subst, arith}
use Rattle.occ_syntax.specs.declared.proc.Proc.{Proc}
use Rattle.occ_syntax.specs.Tree.{Tree, seq, par, skip, stop, Trees, no_tree}
use Rattle.occ_syntax.specs.View.{trees}
use Rattle.occ_law_shape.specs.occ_meaning.Parallel.{one, two}
use Rattle.occ_law_shape.specs.occ_law.Parallel.{ParNone, par_none, ParOne, par_one, ParStop, par_stop}
use Rattle.occ_law_shape.proofs.Fronts.{trees_none}

none_there : (parts : List Proc) → length parts ≡ 0 → no_tree ≡ trees parts
none_there [] h = refl
none_there (p ∷ ps) h = absurd (omega (arith, h))

none_parts : (xs : Trees) (r : Tree) (place : List ℕ) → ParNone place (par xs) r → xs ≡ no_tree
none_parts xs r place par_none = refl

-- par-none is a list without parts
pub none_law : (parts : List Proc) (b : Bool) → (IsTrue b ↔ (length parts ≡ 0)) → IsTrue b ↔ ((place : List ℕ) × ParNone place (par (trees parts)) skip)
none_law parts b test = (
  (λ h. ([], subst (λ z. ParNone [] (par z) skip) (none_there parts (test.0 h)) par_none)),
  (λ k. test.1 (trees_none parts (none_parts (trees parts) skip k.0 k.1))),
)

one_part : (xs : Trees) (r : Tree) (place : List ℕ) → ParOne place (par xs) r → xs ≡ one r
one_part xs r place (par_one p) = refl

-- par-one is a list of one part, which is the right side
pub one_law : (xs : Trees) (p r : Tree) (b : Bool) → xs ≡ one p → (IsTrue b ↔ (p ≡ r)) → IsTrue b ↔ ((place : List ℕ) × ParOne place (par xs) r)
one_law xs p r b e same = (
  (λ h. ([], subst (λ z. ParOne [] (par z) r) (sym e) (subst (λ z. ParOne [] (par (one p)) z) (same.0 h) (par_one p)))),
  (λ k. let g : one p ≡ one r = sym e ∙ one_part xs r k.0 k.1 in
      let h : p ≡ r = cc in
      same.1 h),
)

stop_same : (xs ys : Trees) (place : List ℕ) → ParStop place (par xs) (seq ys) → xs ≡ ys
stop_same xs ys place (par_stop p) = refl

-- par-stop is a part and STOP, in both lists
pub stop_law : (xs ys : Trees) (b : Bool) → (p : Tree) × (xs ≡ two p stop) → (IsTrue b ↔ (xs ≡ ys)) → IsTrue b ↔ ((place : List ℕ) × ParStop place (par xs) (seq ys))
stop_law xs ys b k same = (
  (λ h. ([], subst (λ z. ParStop [] (par xs) (seq z)) (same.0 h) (subst (λ z. ParStop [] (par z) (seq z)) (sym k.1) (par_stop k.0)))),
  (λ m. same.1 (stop_same xs ys m.0 m.1)),
)
