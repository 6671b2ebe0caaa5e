use Rattle.std.proofs.Common.{◌≡◌, length}
use Rattle.occ_law_seq.specs.occ_law.Lists.{all_branches}
use Rattle.occ_law_seq.specs.occ_law.Sequence.{each_guard_assigned}
use Rattle.occ_syntax.specs.View.{branches, exps, in_alternatives, numbers}
use Rattle.occ_law_right.proofs.behind.branches_behind.Given as goal

-- what is made so far and what is made of the rest are all that is made
abbrev pub invariant-loop-rest : goal.invariant-loop-rest
invariant-loop-rest l = all_branches (branches (in_alternatives l.made)) (each_guard_assigned (numbers l.pairs.vars.now) (exps l.pairs.values.now) (branches l.rest))
    ≡ each_guard_assigned (numbers l.pairs.vars.now) (exps l.pairs.values.now) (branches l.alternatives)

abbrev pub decreases-loop-rest : goal.decreases-loop-rest
decreases-loop-rest l = length l.rest
