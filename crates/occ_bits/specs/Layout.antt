-- Which bits of an assignment belong to which variable, and the state that an assignment stands for.
use Rattle.std.specs.Prelude.{ℕ, ◌+◌, ◌*◌, ◌/◌, ◌%◌, ◌^◌, ◌<◌, ◌≤◌, ◌≡◌, ◌==◌, true, List, [], ◌∷◌, Option, None, Some, if◌then◌else◌}
use Rattle.occ_dd.specs.occ_base.declared.names.Name.{Name}
use Rattle.occ_dd.specs.occ_base.declared.width.Width.{Width}
use Rattle.occ_dd.specs.occ_base.Width.{bits_of}
use Rattle.occ_syntax.specs.declared.scope.Kind.{Kind}
use Rattle.occ_syntax.specs.declared.scope.Kind.TheVariants.{Var, Chan}
use Rattle.occ_syntax.specs.Counts.{bits_of_scope}
use Rattle.occ_syntax.specs.Scopes.{Environment, IsState, Values, environment, variable_width, with_value}
use Rattle.occ_syntax.specs.Types.{scope_kept}

-- each variable of a scope with its width and its first bit, where that of the first variable is given
abbrev pub laid_out : ℕ → List (Name × Kind) → List (Name × Width × ℕ)
laid_out first [] = []
laid_out first ((name, Var width) ∷ rest) = (name, width, first) ∷ laid_out (first + bits_of width) rest
laid_out first ((name, Chan width dir) ∷ rest) = laid_out first rest

-- the variables of a layout as a scope
abbrev pub scope_in : List (Name × Width × ℕ) → List (Name × Kind)
scope_in [] = []
scope_in (entry ∷ entries) = (entry.0, Var entry.1) ∷ scope_in entries

abbrev pub environment_in : List (Name × Width × ℕ) → Environment
environment_in entries = environment (scope_in entries)

-- the entries are those that a scope of at most 64 bits lays out, of which the layout keeps the variables
pub record IsLayout (entries : List (Name × Width × ℕ)) : Type 0 where
  pub scope : scope_kept (scope_in entries) ≡ true
  pub few : bits_of_scope (scope_in entries) ≤ 64
  pub laid : entries ≡ laid_out 0 (scope_in entries)

-- the state that an assignment stands for: each variable has the number that its bits make, the first of them the lowest
abbrev pub state_of : List (Name × Width × ℕ) → ℕ → Values
state_of [] x = λ y. 0
state_of (entry ∷ entries) x = with_value (state_of entries x) entry.0.0 (x / 2 ^ entry.2 % 2 ^ bits_of entry.1)

-- the assignment that stands for a state
abbrev pub assignment_of : List (Name × Width × ℕ) → Values → ℕ
assignment_of [] s = 0
assignment_of (entry ∷ entries) s = s entry.0.0 * 2 ^ entry.2 + assignment_of entries s

-- The assignments of a layout's bits are the states of its variables.
pub record AreStates (entries : List (Name × Width × ℕ)) : Type 0 where
  pub state : (x : ℕ) → IsState (environment_in entries) (state_of entries x)
  pub small : (s : Values) → IsState (environment_in entries) s → assignment_of entries s < 2 ^ bits_of_scope (scope_in entries)
  pub back : (s : Values) → IsState (environment_in entries) s → (y : ℕ) (width : Width) → variable_width (environment_in entries) y ≡ Some width → state_of entries (assignment_of entries s) y ≡ s y
  pub again : (x : ℕ) → x < 2 ^ bits_of_scope (scope_in entries) → assignment_of entries (state_of entries x) ≡ x

-- the width and the first bit of a variable
abbrev pub entry_of : List (Name × Width × ℕ) → ℕ → Option (Width × ℕ)
entry_of [] y = None
entry_of (entry ∷ entries) y = if y == entry.0.0 then Some (entry.1, entry.2) else entry_of entries y
