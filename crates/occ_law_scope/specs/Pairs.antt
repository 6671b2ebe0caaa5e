-- Assignments without the pairs for one variable.
use Rattle.std.specs.Prelude.{ℕ, List}
use Rattle.occ_law_shape.specs.occ_law.Lists.{assigned_without}
use Rattle.occ_names.specs.occ_meaning.Parallel.{two}
use Rattle.occ_syntax.specs.Tree.{Exp, Tree, assign, seq}

-- an assignment, and the assignment of its pairs for other variables
pub data AssignedWithout (x : ℕ) : Tree → Tree → Type 0 where
  assigned_so : (ys : List ℕ) (fs : List Exp) → AssignedWithout x (assign ys fs) (assigned_without x ys fs)

-- two SEQs of a process and such an assignment
pub data EndsWithout (x : ℕ) : Tree → Tree → Type 0 where
  ends_so : (p q r : Tree) → AssignedWithout x q r → EndsWithout x (seq (two p q)) (seq (two p r))
