-- All events of an interface.
use Rattle.std.specs.Prelude.{ℕ, ◌==◌, ◌^◌, ◌&&◌, ◌||◌, Bool, true, false, nat_lt, List, [], ◌∷◌, Option, Some, None}
use Rattle.occ_syntax.specs.occ_base.declared.event.Dir.{Dir}
use Rattle.occ_syntax.specs.occ_base.declared.event.Event.{Event}
use Rattle.occ_syntax.specs.occ_base.declared.names.Name.{Name}
use Rattle.occ_syntax.specs.occ_base.Width.{bits_of}
use Rattle.occ_syntax.specs.declared.scope.Kind.{Kind}
use Rattle.occ_syntax.specs.declared.scope.Kind.TheVariants.{Var, Chan}
use Rattle.occ_syntax.specs.Scopes.{same_dir}

-- the event is one of the channel in that direction, with a value below a limit
abbrev pub in_values : Name → Dir → ℕ → Event → Bool
in_values chan dir limit e = (e.chan.0 == chan.0 && same_dir dir e.dir) && nat_lt e.value limit

abbrev pub allowed : Option Dir → Dir → Bool
allowed None d = true
allowed (Some dir) d = same_dir dir d

-- the same in the directions that a mark allows
abbrev pub in_marked : Name → Option Dir → ℕ → Event → Bool
in_marked chan mark limit e = (e.chan.0 == chan.0) && (nat_lt e.value limit && allowed mark e.dir)

-- the event is one of a parameter
abbrev pub in_param : Name × Kind → Event → Bool
in_param (name, Var width) e = false
in_param (name, Chan width mark) e = in_marked name mark (2 ^ bits_of width) e

abbrev pub in_params : List (Name × Kind) → Event → Bool
in_params [] e = false
in_params (entry ∷ ps) e = in_param entry e || in_params ps e
