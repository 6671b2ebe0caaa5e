-- Tests joined to one another, and answers of laws made from them.
use Rattle.std.proofs.Common.{◌≡◌, ℕ, ◌↔◌, Bool, IsTrue, Result, IfOk, List, sym, subst}
use Rattle.std.proofs.lemmas.Result.{IfOk-weaker}
use Rattle.occ_syntax.specs.Tree.{Tree}

-- two tests in a row
pub through : {A B C : Type 0} → (A ↔ B) → (B ↔ C) → A ↔ C
through f g = ((λ a. g.0 (f.0 a)), (λ c. f.1 (g.1 c)))

-- what is known already needs no test
pub known_first : {P Q : Type 0} → P → Q ↔ (P × Q)
known_first p = ((λ q. (p, q)), (λ k. k.1))

-- the answer of a law, known by its left side
pub by_sides : {P : Type 0} (D : List ℕ → Tree → Tree → Type 0) (m l r : Tree) → m ≡ l → (P → (place : List ℕ) × D place m r) → ((place : List ℕ) → D place m r → P)
    → P ↔ ((place : List ℕ) × D place l r)
by_sides D m l r e there back = (
  (λ h. let t = there h in (t.0, subst (λ z. D t.0 z r) e t.1)),
  (λ k. back k.0 (subst (λ z. D k.0 z r) (sym e) k.1)),
)

-- there is none, known by its left side
pub by_sides_never : (D : List ℕ → Tree → Tree → Type 0) (m l r : Tree) → m ≡ l → ((place : List ℕ) → D place m r → ⊥) → (place : List ℕ) × D place l r → ⊥
by_sides_never D m l r e never k = never k.0 (subst (λ z. D k.0 z r) (sym e) k.1)

-- the same right side
pub put_right : (D : List ℕ → Tree → Tree → Type 0) (ks : List ℕ) (m s r : Tree) → r ≡ s → D ks m s → D ks m r
put_right D ks m s r e h = subst (λ z. D ks m z) (sym e) h

-- an answer by a test that says the same
pub answered : {E : Type 0} {P Q : Type 0} (result : Result Bool E) → IfOk result (λ answer. IsTrue answer ↔ P) → (P ↔ Q) → IfOk result (λ answer. IsTrue answer ↔ Q)
answered result h same = IfOk-weaker result _ _ (λ answer test. through test same) h
