use Rattle.std.proofs.Common.{◌≡◌, length}
use Rattle.occ_law_seq.specs.occ_law.Lists.{all_cases}
use Rattle.occ_law_seq.specs.occ_law.Sequence.{each_assigned}
use Rattle.occ_syntax.specs.View.{cases, exps, in_choices, numbers}
use Rattle.occ_law_right.proofs.behind.choices_behind.Given as goal

-- what is made so far and what is made of the rest are all that is made
abbrev pub invariant-loop-rest : goal.invariant-loop-rest
invariant-loop-rest l = all_cases (cases (in_choices l.made)) (each_assigned (numbers l.pairs.vars.now) (exps l.pairs.values.now) (cases l.rest))
    ≡ each_assigned (numbers l.pairs.vars.now) (exps l.pairs.values.now) (cases l.choices)

abbrev pub decreases-loop-rest : goal.decreases-loop-rest
decreases-loop-rest l = length l.rest
