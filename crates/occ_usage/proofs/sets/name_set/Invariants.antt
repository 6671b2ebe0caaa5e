use Rattle.std.proofs.Common.{◌≡◌, ℕ, ◌||◌, drop}
use Rattle.occ_syntax.specs.Names.{is_in}
use Rattle.occ_syntax.specs.View.{numbers}
use Rattle.occ_usage.proofs.sets.name_set.Given as goal

-- the names so far and those that are left are those of the list
abbrev pub invariant-loop-name : goal.invariant-loop-name
invariant-loop-name l = (x : ℕ) → (is_in l.set x || is_in (numbers (drop l.name-index l.names)) x) ≡ is_in (numbers l.names) x
