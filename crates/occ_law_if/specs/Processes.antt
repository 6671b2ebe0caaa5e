-- Two processes that differ in expressions alone, where expressions in one place are related by E.
use Rattle.std.specs.Prelude.{ℕ, List}
use Rattle.occ_syntax.specs.Tree.{Exp, Tree, assign, seq, alt, Trees, and_tree, Branches}
use Rattle.occ_law_shape.specs.occ_law.States.{BranchesEqual, EachEqual}

-- the right sides of two assignments to the same variables
pub data AssignmentsEqual (E : Exp → Exp → Type 0) : Tree → Tree → Type 0 where
  equal_assignments : (xs : List ℕ) (es fs : List Exp) → EachEqual E es fs → AssignmentsEqual E (assign xs es) (assign xs fs)

-- two such assignments, two SEQs that begin with such and are the same behind them, or two ALTs
pub data ProcessesEqual (E : Exp → Exp → Type 0) : Tree → Tree → Type 0 where
  by_assignments : {p q : Tree} → AssignmentsEqual E p q → ProcessesEqual E p q
  by_beginnings : {p q : Tree} (ps : Trees) → AssignmentsEqual E p q → ProcessesEqual E (seq (and_tree p ps)) (seq (and_tree q ps))
  by_branches : (gs hs : Branches) → BranchesEqual E gs hs → ProcessesEqual E (alt gs) (alt hs)
