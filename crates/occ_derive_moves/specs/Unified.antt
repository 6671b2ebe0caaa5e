-- The variables into which a normal program inputs, and the end of a process in which they are known too.
use Rattle.std.specs.Prelude.{ℕ, Bool, ◌∷◌, ◌++◌, List, []}
use Rattle.occ_target_laws.specs.occ_base.declared.names.Name.{Name}
use Rattle.occ_target_laws.specs.occ_syntax.declared.scope.Kind.{Kind}
use Rattle.occ_target_laws.specs.occ_syntax.declared.scope.Kind.TheVariants.{Chan, Var}
use Rattle.occ_target_laws.specs.occ_syntax.Names.{is_in}
use Rattle.occ_target_laws.specs.occ_syntax.Tree.{Exp, Tree}
use Rattle.occ_target_laws.specs.occ_target.States.{assigning, constant, constants, variables}
use Rattle.occ_target_laws.specs.Shapes.{Header}

-- whether the normal program inputs into this variable
abbrev pub is_target : Header → ℕ → Bool
is_target h x = is_in (variables h.inputs) x

-- FALSE or 0 for each variable into which the normal program inputs
abbrev pub cleared : List (Name × Kind) → List Exp
cleared [] = []
cleared ((name, Chan w dir) ∷ inputs) = cleared inputs
cleared ((name, Var w) ∷ inputs) = constant w 0 ∷ cleared inputs

-- the end in a state, while there are variables for inputs
abbrev pub ending_cleared : Header → List (Name × ℕ) → Tree
ending_cleared h state = assigning (variables h.params ++ variables h.inputs) (constants h.params state ++ cleared h.inputs)
