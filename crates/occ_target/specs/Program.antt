-- The normal program of a table.
use Rattle.std.specs.Prelude.{ℕ, ◌+◌, List, [], ◌∷◌, ◌++◌}
use Rattle.occ_syntax.specs.occ_base.declared.names.Name.{Name}
use Rattle.occ_syntax.specs.declared.scope.Kind.{Kind}
use Rattle.occ_syntax.specs.Declarations.{declaring_all}
use Rattle.occ_syntax.specs.Tree.{Exp, Tree, select}
use Rattle.occ_nform_table.specs.declared.table.TableRow.{TableRow}
use Rattle.occ_nform_table.specs.Texts.{state_at_place}
use Rattle.occ_target.specs.Inputs.{input_variables}
use Rattle.occ_target.specs.States.{condition}
use Rattle.occ_target.specs.Rows.{choices, part_at, row_process}

-- the processes of rows, behind those of the rows before them, with which they go on
unfoldable pub processes : List (Name × Kind) → List (Name × Kind) → List Tree → List TableRow → List Tree
processes params inputs parts [] = parts
processes params inputs parts (row ∷ rows) =
    processes params inputs (parts ++ row_process (record { params = params; inputs = inputs; parts = parts }) row ∷ []) rows

-- for each initial state from the k-th on the choice of its row's process
unfoldable pub state_choices : List (Name × Kind) → List Tree → ℕ → List ℕ → List (Exp × Tree)
state_choices params parts k [] = []
state_choices params parts k (n ∷ states) =
    (condition params (state_at_place params k), part_at parts n) ∷ state_choices params parts (k + 1) states

-- the IF over the initial states
abbrev pub state_process : List (Name × Kind) → List Tree → List ℕ → Tree
state_process params parts states = select (choices (state_choices params parts 0 states))

abbrev pub body_over : List (Name × Kind) → List (Name × Kind) → List TableRow → List ℕ → Tree
body_over params inputs rows states = declaring_all inputs (state_process params (processes params inputs [] rows) states)

-- The body of the normal program with these parameters whose behaviours are those of the rows, for each initial state its own row.
abbrev pub normal_body : List (List ℕ) → List (Name × Kind) → List TableRow → List ℕ → Tree
normal_body names params rows states = body_over params (input_variables names params) rows states
