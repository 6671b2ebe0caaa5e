-- States as conditions and as assignments.
use Rattle.std.specs.Prelude.{ℕ, nat_lt, List, [], ◌∷◌, true}
use Rattle.occ_syntax.specs.occ_base.declared.names.Name.{Name}
use Rattle.occ_syntax.specs.occ_base.declared.width.Width.{Width}
use Rattle.occ_syntax.specs.occ_base.declared.width.Width.TheVariants.{Bool as Truth, Word}
use Rattle.occ_syntax.specs.declared.expr.Op.TheVariants.{And, Equal}
use Rattle.occ_syntax.specs.declared.scope.Kind.{Kind}
use Rattle.occ_syntax.specs.declared.scope.Kind.TheVariants.{Var, Chan}
use Rattle.occ_syntax.specs.Tree.{Exp, variable, numeral, truth, operation, Tree, skip, assign}

-- a value as it is written in a width; FALSE is 0
abbrev pub constant : Width → ℕ → Exp
constant Truth v = truth (nat_lt 0 v)
constant (Word bits) v = numeral bits v

-- the condition that a variable of a width has a value
abbrev pub is_at : ℕ → Width → ℕ → Exp
is_at x w v = operation Equal (variable x) (constant w v)

-- for each variable of an interface, in order, the condition that it has its value in a state
abbrev pub tests : List (Name × Kind) → List (Name × ℕ) → List Exp
tests [] state = []
tests ((name, Chan width dir) ∷ params) state = tests params state
tests ((name, Var width) ∷ params) [] = []
tests ((name, Var width) ∷ params) (v ∷ state) = is_at name.0 width v.1 ∷ tests params state

-- conditions joined by AND from the left
abbrev pub joined : Exp → List Exp → Exp
joined e [] = e
joined e (f ∷ fs) = joined (operation And e f) fs

abbrev pub all_true : List Exp → Exp
all_true [] = truth true
all_true (e ∷ es) = joined e es

-- the condition that the variables of an interface have their values in a state
abbrev pub condition : List (Name × Kind) → List (Name × ℕ) → Exp
condition params state = all_true (tests params state)

-- the variables of an interface, in order
abbrev pub variables : List (Name × Kind) → List ℕ
variables [] = []
variables ((name, Chan width dir) ∷ params) = variables params
variables ((name, Var width) ∷ params) = name.0 ∷ variables params

-- their values in a state
abbrev pub constants : List (Name × Kind) → List (Name × ℕ) → List Exp
constants [] state = []
constants ((name, Chan width dir) ∷ params) state = constants params state
constants ((name, Var width) ∷ params) [] = []
constants ((name, Var width) ∷ params) (v ∷ state) = constant width v.1 ∷ constants params state

-- the assignment of values to variables, or SKIP where there are none
abbrev pub assigning : List ℕ → List Exp → Tree
assigning [] es = skip
assigning (x ∷ xs) es = assign (x ∷ xs) es

-- the process that ends in a state
abbrev pub ending : List (Name × Kind) → List (Name × ℕ) → Tree
ending params state = assigning (variables params) (constants params state)
