use Rattle.std.proofs.Common.{◌≡◌, ℕ, ◌||◌, drop}
use Rattle.occ_syntax.specs.occ_base.declared.event.Dir.{Dir}
use Rattle.occ_names.specs.Once.{has}
use Rattle.occ_names.specs.Mentions.{same_end, end_numbers}
use Rattle.occ_usage.proofs.sets.end_set.Given as goal

-- the ends so far and those that are left are those of the list
abbrev pub invariant-loop-end : goal.invariant-loop-end
invariant-loop-end l = (e : ℕ × Dir) → (has same_end l.set e || has same_end (end_numbers (drop l.end-index l.ends)) e) ≡ has same_end (end_numbers l.ends) e
