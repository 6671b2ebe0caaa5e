-- The count of controls from a process to its parts.
use Rattle.std.proofs.Common.{◌≡◌, ℕ, ◌+◌, ◌-◌, ◌^◌, min, refl, arith}
use Rattle.occ_syntax.specs.declared.scope.Kind.{Kind}
use Rattle.occ_syntax.specs.declared.scope.Kind.TheVariants.{Var, Chan}
use Rattle.occ_syntax.specs.Tree.{Tree}
use Rattle.occ_syntax.specs.Declarations.{declaring}
use Rattle.occ_syntax.specs.Counts.{capped, controls}
use Rattle.occ_syntax.proofs.Weights.{weight}

pub controls-declaring : (x : ℕ) (k : Kind) (p : Tree) → controls (declaring x k p) ≡ 1 + controls p
controls-declaring x (Var w) p = refl
controls-declaring x (Chan w d) p = refl

pub weight-declaring : (x : ℕ) (k : Kind) (p : Tree) → weight (declaring x k p) ≡ 1 + weight p
unfolding weight
weight-declaring x (Var w) p = refl
weight-declaring x (Chan w d) p = refl

-- a capped count and one more
pub one_more : (a r n m : ℕ) → r ≡ capped a → n ≡ min (r + 1) (2 ^ 64 - 1) → m ≡ 1 + a → n ≡ capped m
one_more a r n m e f g = omega arith
