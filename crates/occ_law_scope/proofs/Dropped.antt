-- Assignments without the pairs for one variable: var-assign and var-end, by their sides.
use Rattle.std.proofs.Common.{◌≡◌, ℕ, ◌↔◌, ◌⊎◌, inl, inr, Bool, IsTrue, false, List, [], ◌∷◌, refl, ap, sym, ◌∙◌, subst}
use Rattle.occ_syntax.specs.occ_base.declared.width.Width.{Width}
use Rattle.occ_law_shape.specs.occ_law.Lists.{assigned_without, values_without}
use Rattle.occ_law_shape.specs.occ_law.Scope.{VarAssign, var_assign, VarEnd, var_end}
use Rattle.occ_names.specs.occ_meaning.Parallel.{two}
use Rattle.occ_syntax.specs.Names.{some_names}
use Rattle.occ_syntax.specs.Tree.{Exp, Tree, assign, seq, declare}
use Rattle.occ_law_scope.proofs.Joined.{by_sides, put_right}
use Rattle.occ_law_scope.specs.Pairs.{AssignedWithout, assigned_so, EndsWithout, ends_so}

-- ---- the end of the pairs

pub values_end : (x : ℕ) (zs : List ℕ) (fs : List Exp) → zs ≡ [] → values_without x zs fs ≡ []
values_end x zs fs e = ap (λ k. values_without x k fs) e

pub values_end_too : (x : ℕ) (zs : List ℕ) (fs : List Exp) → fs ≡ [] → values_without x zs fs ≡ []
values_end_too x [] fs e = refl
values_end_too x (z ∷ zs) fs e = ap (values_without x (z ∷ zs)) e

pub values_over : (x : ℕ) (zs : List ℕ) (fs : List Exp) → (zs ≡ []) ⊎ (fs ≡ []) → values_without x zs fs ≡ []
values_over x zs fs h = elim h [ inl e ↦ values_end x zs fs e | inr e ↦ values_end_too x zs fs e ]

pub none_named : (b : Bool) (x : ℕ) (es : List Exp) → b ≡ some_names es x → es ≡ [] → false ≡ b
none_named b x es e f = sym (e ∙ ap (λ k. some_names k x) f)

-- ---- var-assign

var_assign_back : (x : ℕ) (w : Width) (ys : List ℕ) (fs : List Exp) (r : Tree) (place : List ℕ) → VarAssign place (declare x w (assign ys fs)) r
    → (r ≡ assigned_without x ys fs) × (some_names (values_without x ys fs) x ≡ false)
var_assign_back x w ys fs r place (var_assign y v zs gs h) = (refl, h)

pub var_assign_law : (l r b : Tree) (x : ℕ) (w : Width) (ys : List ℕ) (fs : List Exp) → declare x w b ≡ l → assign ys fs ≡ b → some_names (values_without x ys fs) x ≡ false
    → (r ≡ assigned_without x ys fs) ↔ ((place : List ℕ) × VarAssign place l r)
var_assign_law l r b x w ys fs e f spared =
    by_sides VarAssign (declare x w (assign ys fs)) l r (ap (declare x w) f ∙ e)
    (λ h. ([], put_right VarAssign [] (declare x w (assign ys fs)) (assigned_without x ys fs) r h (var_assign x w ys fs spared)))
    (λ place k. (var_assign_back x w ys fs r place k).0)

-- ---- var-end

-- a process is an assignment, and another one that of its pairs for other variables
pub without_is : (x : ℕ) (q r : Tree) (ys : List ℕ) (fs : List Exp) → assign ys fs ≡ q → (r ≡ assigned_without x ys fs) ↔ AssignedWithout x q r
without_is x q r ys fs e = (
  (λ h. subst (λ m. AssignedWithout x m r) e (subst (λ m. AssignedWithout x (assign ys fs) m) (sym h) (assigned_so ys fs))),
  (λ k. back x q r ys fs e k),
)
  where
    back : (x : ℕ) (q r : Tree) (ys : List ℕ) (fs : List Exp) → assign ys fs ≡ q → AssignedWithout x q r → r ≡ assigned_without x ys fs
    back x q r ys fs e (assigned_so zs gs) =
        let f : zs ≡ ys = cc in
        let g : gs ≡ fs = cc in
        ap (λ k. assigned_without x k gs) f ∙ ap (assigned_without x ys) g

-- two SEQs end so where their first processes are the same, and their last ones so
pub ends_are : (x : ℕ) (b o p q s t : Tree) (c : Bool) → b ≡ seq (two p q) → o ≡ seq (two s t) → (IsTrue c ↔ ((p ≡ s) × AssignedWithout x q t)) → IsTrue c ↔ EndsWithout x b o
ends_are x b o p q s t c e f test = (
  (λ h. let k = test.0 h in subst (λ m. EndsWithout x m o) (sym e) (subst (λ m. EndsWithout x (seq (two p q)) m) (sym (f ∙ ap (λ m. seq (two m t)) (sym k.0))) (ends_so p q t k.1))),
  (λ k. test.1 (back x b o p q s t e f k)),
)
  where
    back : (x : ℕ) (b o p q s t : Tree) → b ≡ seq (two p q) → o ≡ seq (two s t) → EndsWithout x b o → (p ≡ s) × AssignedWithout x q t
    back x b o p q s t e f (ends_so m n u a) =
        let g : n ≡ q = cc in
        let h : u ≡ t = cc in
        let i : p ≡ s = cc in
        (i, subst (λ k. AssignedWithout x k t) g (subst (λ k. AssignedWithout x n k) h a))

pub var_end_law : (l r p q : Tree) (x : ℕ) (w : Width) → declare x w p ≡ l → r ≡ declare x w q → EndsWithout x p q ↔ ((place : List ℕ) × VarEnd place l r)
var_end_law l r p q x w e f = (
  (λ h. ([], subst (λ m. VarEnd [] m r) e (subst (λ m. VarEnd [] (declare x w p) m) (sym f) (there x w p q h)))),
  (λ k. back x w p q l r e f k.0 k.1),
)
  where
    at_last : (x : ℕ) (w : Width) (p q r : Tree) → AssignedWithout x q r → VarEnd [] (declare x w (seq (two p q))) (declare x w (seq (two p r)))
    at_last x w p q r (assigned_so ys fs) = var_end x w p ys fs

    there : (x : ℕ) (w : Width) (p q : Tree) → EndsWithout x p q → VarEnd [] (declare x w p) (declare x w q)
    there x w p q (ends_so m n u a) = at_last x w m n u a

    back : (x : ℕ) (w : Width) (p q l r : Tree) → declare x w p ≡ l → r ≡ declare x w q → (place : List ℕ) → VarEnd place l r → EndsWithout x p q
    back x w p q l r e f place (var_end y v m ys fs) =
        let g : y ≡ x = cc in
        let h : seq (two m (assign ys fs)) ≡ p = cc in
        let k : seq (two m (assigned_without y ys fs)) ≡ q = cc in
        subst (λ n. EndsWithout n p q) g (subst (λ n. EndsWithout y n q) h (subst (λ n. EndsWithout y (seq (two m (assign ys fs))) n) k (ends_so m (assign ys fs) (assigned_without y ys fs) (assigned_so ys fs))))
