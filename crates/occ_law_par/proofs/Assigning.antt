-- par-assign by the parts of its sides.
use Rattle.std.proofs.Common.{◌≡◌, ℕ, ◌↔◌, Bool, IsTrue, List, [], refl, ap, sym, ◌∙◌, subst}
use Rattle.occ_syntax.specs.Tree.{Tree, Exp, assign, seq, par, Trees, and_tree}
use Rattle.occ_law_shape.specs.occ_meaning.Parallel.{two}
use Rattle.occ_law_shape.specs.occ_law.Parallel.{ParAssign, par_assign}

-- the first part of the PAR is a SEQ that begins with the assignment and goes on with the rest
abbrev pub Begins : Tree → Tree → Tree → Type 0
Begins whole part rest = (ps : Trees) × (whole ≡ seq (and_tree part ps)) × (rest ≡ seq ps)

abbrev pub IsAssignment : Tree → Type 0
IsAssignment part = (xs : List ℕ) × (es : List Exp) × (part ≡ assign xs es)

second_part : (f s a r o : Tree) (place : List ℕ) → ParAssign place (par (two f s)) (seq (two a (par (two r o)))) → s ≡ o
second_part f s a r o place (par_assign xs es ps q) = refl

put_together : (f s a r o : Tree) → IsAssignment a → Begins f a r → s ≡ o → (place : List ℕ) × ParAssign place (par (two f s)) (seq (two a (par (two r o))))
put_together f s a r o (xs, es, e) (ps, g, h) k =
    let c : seq (and_tree (assign xs es) ps) ≡ f = cc in (
      [],
      subst (λ z. ParAssign [] (par (two z s)) (seq (two a (par (two r o))))) c
          (subst (λ z. ParAssign [] (par (two (seq (and_tree (assign xs es) ps)) s)) (seq (two z (par (two r o))))) (sym e)
          (subst (λ z. ParAssign [] (par (two (seq (and_tree (assign xs es) ps)) s)) (seq (two (assign xs es) (par (two z o))))) (sym h)
          (subst (λ z. ParAssign [] (par (two (seq (and_tree (assign xs es) ps)) s)) (seq (two (assign xs es) (par (two (seq ps) z))))) k (par_assign xs es ps s)))),
    )

-- par-assign where the assignment begins the first part, and the second is the same
pub assign_law : (l r f s a b m o : Tree) (z : Bool) → l ≡ par (two f s) → r ≡ seq (two a b) → b ≡ par (two m o)
    → IsAssignment a → Begins f a m → (IsTrue z ↔ (s ≡ o)) → IsTrue z ↔ ((place : List ℕ) × ParAssign place l r)
assign_law l r f s a b m o z e g h assignment begins same = (
  (λ k. let w = put_together f s a m o assignment begins (same.0 k) in
      (w.0, subst (λ n. ParAssign w.0 n r) (sym e) (subst (λ n. ParAssign w.0 (par (two f s)) n) (sym right) w.1))),
  (λ k. same.1 (second_part f s a m o k.0 (subst (λ n. ParAssign k.0 n (seq (two a (par (two m o))))) e (subst (λ n. ParAssign k.0 l n) right k.1)))),
)
  where
    right : r ≡ seq (two a (par (two m o)))
    right = g ∙ ap (λ n. seq (two a n)) h
