-- The assignments of an interface and their states, in the order of printing.
use Rattle.std.specs.Prelude.{ℕ, ◌+◌, ◌*◌, ◌/◌, ◌%◌, ◌^◌, List, [], ◌∷◌}
use Rattle.occ_syntax.specs.occ_base.declared.names.Name.{Name}
use Rattle.occ_syntax.specs.occ_base.declared.width.Width.{Width}
use Rattle.occ_syntax.specs.occ_base.Width.{bits_of}
use Rattle.occ_syntax.specs.declared.scope.Kind.{Kind}
use Rattle.occ_syntax.specs.declared.scope.Kind.TheVariants.{Var, Chan}
use Rattle.occ_syntax.specs.Counts.{bits_of_kind, bits_of_scope}
use Rattle.occ_bits.specs.Layout.{laid_out}

-- the values that an assignment gives to the variables of a layout
abbrev pub values_at : List (Name × Width × ℕ) → ℕ → List (Name × ℕ)
values_at [] x = []
values_at (entry ∷ entries) x = (entry.0, x / 2 ^ entry.2 % 2 ^ bits_of entry.1) ∷ values_at entries x

-- the state of an assignment: each variable of the interface, in order, with its value
abbrev pub state_at : List (Name × Kind) → ℕ → List (Name × ℕ)
state_at params x = values_at (laid_out 0 params) x

-- the same, by what is left of the assignment
abbrev pub rest_state : List (Name × Kind) → ℕ → List (Name × ℕ)
rest_state [] x = []
rest_state ((name, Chan width dir) ∷ params) x = rest_state params x
rest_state ((name, Var width) ∷ params) x = (name, x % 2 ^ bits_of width) ∷ rest_state params (x / 2 ^ bits_of width)

-- the same, each value by its lowest eight bits
abbrev pub byte_state : List (Name × Kind) → ℕ → List (Name × ℕ)
byte_state [] x = []
byte_state ((name, Chan width dir) ∷ params) x = byte_state params x
byte_state ((name, Var width) ∷ params) x = (name, x % 2 ^ bits_of width % 256) ∷ byte_state params (x / 2 ^ bits_of width)

-- the assignment whose state has a place among the states in their order, counted from 0
abbrev pub assignment_at : List (Name × Kind) → ℕ → ℕ
assignment_at [] k = 0
assignment_at (entry ∷ params) k = k / 2 ^ bits_of_scope params + 2 ^ bits_of_kind entry.1 * assignment_at params (k % 2 ^ bits_of_scope params)

-- that place
abbrev pub number_in : List (Name × Kind) → ℕ → ℕ
number_in [] x = 0
number_in (entry ∷ params) x = x % 2 ^ bits_of_kind entry.1 * 2 ^ bits_of_scope params + number_in params (x / 2 ^ bits_of_kind entry.1)
