-- That the variables for inputs are cleared at the end of a process, while they are in scope.
use Rattle.std.specs.Prelude.{ℕ, List, [], ◌∷◌}
use Rattle.occ_complete_states.specs.occ_derive_moves.Unified.{cleared}
use Rattle.occ_engine.specs.occ_meaning.Parallel.{two}
use Rattle.occ_engine.specs.occ_syntax.Tree.{Exp, Tree, assign, seq}
use Rattle.occ_complete_states.specs.occ_target.States.{variables}
use Rattle.occ_complete_states.specs.occ_target_laws.Shapes.{Header}

-- a process, and then an assignment, where it has variables
abbrev pub and_then : List ℕ → List Exp → Tree → Tree
and_then [] es p = p
and_then (t ∷ ts) es p = seq (two p (assign (t ∷ ts) es))

-- a process, and then FALSE or 0 for each variable into which the normal program inputs
abbrev pub with_clearing : Header → Tree → Tree
with_clearing h p = and_then (variables h.inputs) (cleared h.inputs) p
