-- An input that goes into another variable first.
use Rattle.std.specs.Prelude.{ℕ, ◌≡◌, ◌==◌, false, List, Some}
use Rattle.occ_renamed.specs.occ_base.declared.names.Name.{Name}
use Rattle.occ_renamed.specs.occ_base.declared.width.Width.{Width}
use Rattle.occ_renamed.specs.occ_syntax.declared.scope.Kind.{Kind}
use Rattle.occ_renamed.specs.occ_syntax.Names.{free, free_in_branches, names}
use Rattle.occ_renamed.specs.occ_syntax.Scopes.{environment, variable_width}
use Rattle.occ_renamed.specs.occ_syntax.Tree.{Branches, Exp, Tree}

-- In an ALT an input into x, in front of p and under the condition b, may go into a declared variable z first: x is another variable of
-- that width, and z isn't free in the ALT. The branches before and behind the input are gs and hs.
pub record MayPass (S : List (Name × Kind)) (z : ℕ) (w : Width) (gs hs : Branches) (b : Exp) (x : ℕ) (p : Tree) : Type 0 where
  pub other : (x == z) ≡ false
  pub width : variable_width (environment S) x ≡ Some w
  pub before : free_in_branches gs z ≡ false
  pub condition : names b z ≡ false
  pub process : free p z ≡ false
  pub behind : free_in_branches hs z ≡ false
