-- The states of an interface, and their order.
use Rattle.std.specs.Prelude.{ℕ, ◌==◌, ◌^◌, Bool, true, false, ◌&&◌, ◌||◌, nat_lt, List, [], ◌∷◌}
use Rattle.occ_syntax.specs.occ_base.declared.names.Name.{Name}
use Rattle.occ_syntax.specs.occ_base.Width.{bits_of}
use Rattle.occ_syntax.specs.declared.scope.Kind.{Kind}
use Rattle.occ_syntax.specs.declared.scope.Kind.TheVariants.{Var, Chan}

-- the list gives each variable of the interface, in order, a value of its width
abbrev pub is_state : List (Name × Kind) → List (Name × ℕ) → Bool
is_state [] [] = true
is_state [] (v ∷ vs) = false
is_state ((name, Chan width dir) ∷ params) vs = is_state params vs
is_state ((name, Var width) ∷ params) [] = false
is_state ((name, Var width) ∷ params) (v ∷ vs) = (v.0.0 == name.0 && nat_lt v.1 (2 ^ bits_of width)) && is_state params vs

-- states are ordered by their values from the left
abbrev pub state_less : List (Name × ℕ) → List (Name × ℕ) → Bool
state_less [] vs = false
state_less (u ∷ us) [] = false
state_less (u ∷ us) (v ∷ vs) = nat_lt u.1 v.1 || (u.1 == v.1 && state_less us vs)
