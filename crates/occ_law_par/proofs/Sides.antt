-- Tests in a row, and the sides of a law by their shapes.
use Rattle.std.proofs.Common.{◌≡◌, ℕ, ◌↔◌, List, sym, subst}
use Rattle.occ_syntax.specs.Tree.{Tree}

-- two tests in a row
pub through : {A B C : Type 0} → (A ↔ B) → (B ↔ C) → A ↔ C
through f g = ((λ a. g.0 (f.0 a)), (λ c. f.1 (g.1 c)))

-- what is met where a law holds between two trees is met where it holds between equal ones
pub at_sides : (D : List ℕ → Tree → Tree → Type 0) {A : Type 0} (l m r s : Tree) → l ≡ m → r ≡ s
    → (A ↔ ((place : List ℕ) × D place l r)) → A ↔ ((place : List ℕ) × D place m s)
at_sides D l m r s e f law = (
  (λ a. let k = law.0 a in (k.0, subst (λ z. D k.0 z s) e (subst (λ z. D k.0 l z) f k.1))),
  (λ k. law.1 (k.0, subst (λ z. D k.0 z r) (sym e) (subst (λ z. D k.0 m z) (sym f) k.1))),
)
