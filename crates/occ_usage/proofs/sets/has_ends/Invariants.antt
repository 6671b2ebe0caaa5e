use Rattle.std.proofs.Common.{drop}
use Rattle.occ_names.specs.Mentions.{end_numbers, same_end}
use Rattle.occ_names.proofs.Listed.{ends_tested}
use Rattle.occ_usage.proofs.Lists.{AreIn}
use Rattle.occ_usage.proofs.sets.has_ends.Given as goal

-- if all ends that are left are in the set, all are
abbrev pub invariant-loop-end : goal.invariant-loop-end
invariant-loop-end l = AreIn same_end ends_tested (end_numbers (drop l.end-index l.ends)) l.fn.set → AreIn same_end ends_tested (end_numbers l.ends) l.fn.set
