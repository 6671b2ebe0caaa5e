use Rattle.std.proofs.Common.{◌≡◌, ◌≤◌, ◌-◌, length, drop}
use Rattle.occ_parse_scopes.proofs.scopes.Scopes.close.Given as goal

-- what is to be left is the same
abbrev pub invariant-loop-self : goal.invariant-loop-self
invariant-loop-self l = (l.depth ≤ length l.self) × (drop (length l.self - l.depth) l.self ≡ drop (length l.initial.self - l.depth) l.initial.self)

abbrev pub decreases-loop-self : goal.decreases-loop-self
decreases-loop-self l = length l.self
