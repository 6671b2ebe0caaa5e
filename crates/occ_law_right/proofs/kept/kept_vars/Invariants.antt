use Rattle.std.proofs.Common.{◌≡◌, ◌++◌, length}
use Rattle.occ_law_seq.specs.occ_law.Lists.{names_without}
use Rattle.occ_syntax.specs.View.{numbers}
use Rattle.occ_law_right.proofs.kept.kept_vars.Given as goal

-- what is kept so far and what is kept of the rest are all that is kept
abbrev pub invariant-loop-rest : goal.invariant-loop-rest
invariant-loop-rest l = numbers l.kept ++ names_without l.var.0 (numbers l.rest) ≡ names_without l.var.0 (numbers l.vars)

abbrev pub decreases-loop-rest : goal.decreases-loop-rest
decreases-loop-rest l = length l.rest
