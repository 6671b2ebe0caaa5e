-- States of a scope as assignments, and what is left to do in a state.
use Rattle.std.specs.Prelude.{ℕ, ◌==◌, List, [], ◌∷◌, ◌++◌, if◌then◌else◌}
use Rattle.occ_derive_laws.specs.occ_base.declared.names.Name.{Name}
use Rattle.occ_derive_laws.specs.occ_meaning.Parallel.{two}
use Rattle.occ_derive_laws.specs.occ_syntax.declared.scope.Kind.{Kind}
use Rattle.occ_derive_laws.specs.occ_syntax.declared.scope.Kind.TheVariants.{Chan, Var}
use Rattle.occ_derive_laws.specs.occ_syntax.Declarations.{declaring_all}
use Rattle.occ_derive_laws.specs.occ_syntax.Scopes.{Values}
use Rattle.occ_derive_laws.specs.occ_syntax.Tree.{Exp, variable, Tree, assign, seq}
use Rattle.occ_derive_laws.specs.occ_target.States.{constant, variables}
use Rattle.occ_derive_laws.specs.occ_target_laws.Shapes.{Header}

-- what a normal program has in scope
abbrev pub scope_of : Header → List (Name × Kind)
scope_of h = h.params ++ h.inputs

-- ---- a state

-- the value of each variable of a scope, in order
abbrev pub facts : List (Name × Kind) → Values → List Exp
facts [] s = []
facts ((name, Chan w d) ∷ T) s = facts T s
facts ((name, Var w) ∷ T) s = constant w (s name.0) ∷ facts T s

-- the assignment that brings a state about
abbrev pub told : List (Name × Kind) → Values → Tree
told T s = assign (variables T) (facts T s)

-- what is left to do in a state: S is in scope round it, and the variables ys are declared in front
abbrev pub in_state : List (Name × Kind) → List (Name × Kind) → Values → Tree → Tree
in_state S ys s p = declaring_all ys (seq (two (told (S ++ ys) s) p))

-- ---- a state but for one variable, which has what another one held before

abbrev pub facts_given : List (Name × Kind) → Values → ℕ → ℕ → List Exp
facts_given [] s x t = []
facts_given ((name, Chan w d) ∷ T) s x t = facts_given T s x t
facts_given ((name, Var w) ∷ T) s x t = (if name.0 == x then variable t else constant w (s name.0)) ∷ facts_given T s x t

abbrev pub told_given : List (Name × Kind) → Values → ℕ → ℕ → Tree
told_given T s x t = assign (variables T) (facts_given T s x t)

abbrev pub in_given : List (Name × Kind) → List (Name × Kind) → Values → ℕ → ℕ → Tree → Tree
in_given S ys s x t p = declaring_all ys (seq (two (told_given (S ++ ys) s x t) p))
