use Rattle.std.proofs.Common.{◌≡◌, length}
use Rattle.occ_syntax.specs.View.{in_procs, trees}
use Rattle.occ_law.specs.occ_meaning.Parallel.{all_of}
use Rattle.occ_law_shape.proofs.made.add_copies.Given as goal

-- what is made so far and what is left are all of it
abbrev pub invariant-loop-rest : goal.invariant-loop-rest
invariant-loop-rest l = all_of (trees (in_procs l.made)) (trees l.rest) ≡ all_of (trees (in_procs l.initial.made)) (trees l.parts)

abbrev pub decreases-loop-rest : goal.decreases-loop-rest
decreases-loop-rest l = length l.rest
