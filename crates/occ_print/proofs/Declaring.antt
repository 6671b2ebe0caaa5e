-- The names of declarations.
use Rattle.std.proofs.Common.{◌≡◌, ℕ, max, refl}
use Rattle.occ_print.specs.Greatest.{greatest}
use Rattle.occ_syntax.specs.declared.scope.Kind.{Kind}
use Rattle.occ_syntax.specs.declared.scope.Kind.TheVariants.{Var, Chan}
use Rattle.occ_syntax.specs.Declarations.{declaring}
use Rattle.occ_syntax.specs.Tree.{Tree}

-- a declared name counts first
pub greatest_declaring : (x : ℕ) (k : Kind) (p : Tree) (m : ℕ) → greatest (declaring x k p) m ≡ greatest p (max m x)
greatest_declaring x (Var w) p m = refl
greatest_declaring c (Chan w d) p m = refl
