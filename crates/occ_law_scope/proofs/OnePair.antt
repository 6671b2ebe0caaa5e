-- The assignment of one variable that a process is.
use Rattle.std.proofs.Common.{◌≡◌, ℕ, Option, None, Some, List}
use Rattle.std.specs.Borrow.{Bor}
use Rattle.occ_syntax.specs.occ_base.declared.names.Name.{Name}
use Rattle.occ_syntax.specs.declared.expr.Expr.{Expr}
use Rattle.occ_syntax.specs.Tree.{Exp, Tree, assign}
use Rattle.occ_law_scope.specs.Turns.{IsOnePair, IsOnlyPair}

-- an assignment is one of one pair where its lists have one item each
pub only_pair_is : (w : Tree) (xs : List ℕ) (es : List Exp) (found : Option (Name × Bor Expr)) → assign xs es ≡ w → IsOnePair xs es found → IsOnlyPair w found
only_pair_is w xs es None e never = λ x v k. never x v (cc) (cc)
only_pair_is w xs es (Some f) e is = cc (e, is.0, is.1)
