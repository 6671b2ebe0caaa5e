-- The places of the channels of an interface.
use Rattle.std.specs.Prelude.{ℕ, ◌+◌, ◌==◌, List, [], ◌∷◌, if◌then◌else◌}
use Rattle.occ_syntax.specs.occ_base.declared.names.Name.{Name}
use Rattle.occ_syntax.specs.declared.scope.Kind.{Kind}

-- the place of a channel among the parameters; one that is none has the place after all
abbrev pub place_in : List (Name × Kind) → Name → ℕ
place_in [] chan = 0
place_in (entry ∷ params) chan = if entry.0.0 == chan.0 then 0 else 1 + place_in params chan
