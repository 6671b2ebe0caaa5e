use Rattle.std.proofs.Common.{drop}
use Rattle.occ_names.specs.Once.{same_number}
use Rattle.occ_names.proofs.Listed.{numbers_tested}
use Rattle.occ_syntax.specs.View.{numbers}
use Rattle.occ_usage.proofs.Lists.{AreIn}
use Rattle.occ_usage.proofs.sets.has_names.Given as goal

-- if all names that are left are in the set, all are
abbrev pub invariant-loop-name : goal.invariant-loop-name
invariant-loop-name l = AreIn same_number numbers_tested (numbers (drop l.name-index l.names)) l.fn.set → AreIn same_number numbers_tested (numbers l.names) l.fn.set
