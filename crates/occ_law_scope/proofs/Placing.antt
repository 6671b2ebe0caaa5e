-- The one branch in which an input goes through another variable, sought in two lists of branches.
use Rattle.std.proofs.Common.{◌≡◌, ℕ, ◌==◌, ◌↔◌, ◌⊎◌, inl, inr, Bool, IsTrue, false, refl, ap, sym, ◌∙◌, subst}
use Rattle.occ_names.proofs.from_meaning.Facts.{at_itself, true_not_false}
use Rattle.occ_syntax.specs.Tree.{Exp, variable, Waiting, input, Tree, Branches, and_branch}
use Rattle.occ_law_scope.specs.Input.{InputHere, input_here, OtherInput, other_here, other_behind}
use Rattle.occ_law_scope.specs.Turns.{begun}

-- where both guards input from one channel, the second one into the variable, what follows decides
pub here_is : (z c x : ℕ) (v w : Waiting) (p q : Tree) (d : Bool) → input c x ≡ v → (x == z) ≡ false → w ≡ input c z → (IsTrue d ↔ (q ≡ begun x (variable z) p)) → IsTrue d ↔ InputHere z v p w q
here_is z c x v w p q d e differ f test = (
  (λ h. subst (λ k. InputHere z k p w q) e (subst (λ k. InputHere z (input c x) p k q) (sym f) (subst (λ k. InputHere z (input c x) p (input c z) k) (sym (test.0 h)) (input_here c x p differ)))),
  (λ k. test.1 (back z c x v w p q e k)),
)
  where
    back : (z c x : ℕ) (v w : Waiting) (p q : Tree) → input c x ≡ v → InputHere z v p w q → q ≡ begun x (variable z) p
    back z c x v w p q e (input_here d y r differ) =
        let f : y ≡ x = cc in
        ap (λ k. begun k (variable z) r) f

-- the guards differ there
guards_differ : (z : ℕ) (v w : Waiting) (p q : Tree) → v ≡ w → InputHere z v p w q → ⊥
guards_differ z v w p q e (input_here c x r differ) =
    let f : x ≡ z = cc in
    true_not_false (sym (ap (λ k. k == z) f ∙ at_itself z) ∙ differ)

-- the place is in the first branches, or behind equal ones
opens : (z : ℕ) (a b : Exp) (v w : Waiting) (p q : Tree) (gs hs : Branches) → OtherInput z (and_branch a v p gs) (and_branch b w q hs)
    → (InputHere z v p w q × (gs ≡ hs)) ⊎ ((v ≡ w) × OtherInput z gs hs)
opens z a b v w p q gs hs (other_here e t u r s is i) = inl (i, refl)
opens z a b v w p q gs hs (other_behind e t r js ks o) = inr (refl, o)

-- the place is here
pub placed_here : {P : Type 0} (z : ℕ) (xs ys : Branches) (a b : Exp) (v w : Waiting) (p q : Tree) (gs hs : Branches) (d : Bool) → xs ≡ and_branch a v p gs → ys ≡ and_branch b w q hs
    → (a ≡ b) × InputHere z v p w q → (IsTrue d ↔ (gs ≡ hs)) → (OtherInput z xs ys ↔ P) → IsTrue d ↔ P
placed_here {P} z xs ys a b v w p q gs hs d e f here test so_far = (
  (λ h. so_far.0 (subst (λ k. OtherInput z k ys) (sym e) (subst (λ k. OtherInput z (and_branch a v p gs) k)
      (ap (λ k. and_branch k w q gs) here.0 ∙ ap (and_branch b w q) (test.0 h) ∙ sym f) (other_here a v w p q gs here.1)))),
  (λ r. test.1 (rest (opens z a b v w p q gs hs (subst (λ k. OtherInput z (and_branch a v p gs) k) f (subst (λ k. OtherInput z k ys) e (so_far.1 r)))))),
)
  where
    rest : (InputHere z v p w q × (gs ≡ hs)) ⊎ ((v ≡ w) × OtherInput z gs hs) → gs ≡ hs
    rest t = elim t [ inl k ↦ k.1 | inr k ↦ absurd (guards_differ z v w p q k.0 here.1) ]

-- behind equal branches
pub further_on : {P : Type 0} (z : ℕ) (xs ys : Branches) (a b : Exp) (v w : Waiting) (p q : Tree) (gs hs : Branches) → xs ≡ and_branch a v p gs → ys ≡ and_branch b w q hs
    → (a ≡ b) × (v ≡ w) × (p ≡ q) → (OtherInput z xs ys ↔ P) → OtherInput z gs hs ↔ P
further_on {P} z xs ys a b v w p q gs hs e f same so_far = (
  (λ o. so_far.0 (subst (λ k. OtherInput z k ys) (sym e) (subst (λ k. OtherInput z (and_branch a v p gs) k)
      (ap (λ k. and_branch k v p hs) same.0 ∙ ap (λ k. and_branch b k p hs) same.1 ∙ ap (λ k. and_branch b w k hs) same.2 ∙ sym f) (other_behind a v p gs hs o)))),
  (λ r. rest (opens z a b v w p q gs hs (subst (λ k. OtherInput z (and_branch a v p gs) k) f (subst (λ k. OtherInput z k ys) e (so_far.1 r))))),
)
  where
    rest : (InputHere z v p w q × (gs ≡ hs)) ⊎ ((v ≡ w) × OtherInput z gs hs) → OtherInput z gs hs
    rest t = elim t [ inl k ↦ absurd (guards_differ z v w p q same.1 k.0) | inr k ↦ k.1 ]
