use Rattle.std.proofs.Common.{◌↔◌, length}
use Rattle.occ_syntax.specs.View.{exps, numbers}
use Rattle.occ_law_seq.specs.Assignment.{AreAmong}
use Rattle.occ_law_seq.proofs.assignment.are_among.Given as goal

-- the pairs so far are among the other ones
abbrev pub invariant-loop-vars : goal.invariant-loop-vars
invariant-loop-vars l = AreAmong (numbers l.vars) (exps l.values) (numbers l.others.vars.now) (exps l.others.values.now)
    ↔ AreAmong (numbers l.pairs.vars.now) (exps l.pairs.values.now) (numbers l.others.vars.now) (exps l.others.values.now)

abbrev pub decreases-loop-vars : goal.decreases-loop-vars
decreases-loop-vars l = length l.vars
