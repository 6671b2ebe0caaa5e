use Rattle.std.proofs.Common.{◌≡◌, ℕ, ◌+◌, ◌-◌, get_or, length}
use Rattle.occ_parse_scopes.proofs.scopes.make_room.Given as goal

-- what the table says stays
abbrev pub invariant-loop-name : goal.invariant-loop-name
invariant-loop-name l = (x : ℕ) → get_or l.newest.items x 0 ≡ get_or l.initial.newest.items x 0

-- the places that are missing
abbrev pub decreases-loop-name : goal.decreases-loop-name
decreases-loop-name l = l.name.0 + 1 - length l.newest.items
