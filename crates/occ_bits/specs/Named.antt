-- The variables that expressions name, and equality of expressions under conditions.
use Rattle.std.specs.Prelude.{ℕ, ◌≡◌, Bool, true, ◌&&◌, List, [], ◌∷◌, filter}
use Rattle.occ_dd.specs.occ_base.declared.names.Name.{Name}
use Rattle.occ_syntax.specs.declared.scope.Kind.{Kind}
use Rattle.occ_syntax.specs.Counts.{bits_of_scope}
use Rattle.occ_syntax.specs.Eval.{eval, is_true}
use Rattle.occ_syntax.specs.Names.{some_names}
use Rattle.occ_syntax.specs.Scopes.{Environment, IsState, Values}
use Rattle.occ_syntax.specs.Tree.{Exp}
use Rattle.occ_syntax.specs.Types.{is_condition}

-- the part of a scope that expressions name
abbrev pub named_part : List (Name × Kind) → List Exp → List (Name × Kind)
named_part scope es = filter (λ entry. some_names es entry.0.0) scope

-- the bits of the variables that expressions name, each counted once
abbrev pub bits_named : List (Name × Kind) → List Exp → ℕ
bits_named scope es = bits_of_scope (named_part scope es)

-- all of the expressions are conditions
abbrev pub are_conditions : Environment → List Exp → Bool
are_conditions Γ [] = true
are_conditions Γ (e ∷ es) = is_condition Γ e && are_conditions Γ es

-- all of the conditions are true
abbrev pub all_true : Environment → List Exp → Values → Bool
all_true Γ [] s = true
all_true Γ (e ∷ es) s = is_true Γ e s && all_true Γ es s

-- two expressions have one value in each state in which all of the conditions are true
abbrev pub IsEqualUnder : Environment → List Exp → Exp → Exp → Type 0
IsEqualUnder Γ under left right = (s : Values) → IsState Γ s → all_true Γ under s ≡ true → eval Γ left s ≡ eval Γ right s
