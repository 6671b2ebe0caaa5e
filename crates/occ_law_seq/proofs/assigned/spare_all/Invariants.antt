use Rattle.std.proofs.Common.{◌≡◌, drop}
use Rattle.occ_law_shape.specs.occ_law.Sequence.{spare_inputs}
use Rattle.occ_syntax.specs.View.{branches, exps, numbers}
use Rattle.occ_law_seq.proofs.assigned.spare_all.Given as goal

-- the branches so far spare what they input
abbrev pub invariant-loop-guard : goal.invariant-loop-guard
invariant-loop-guard l = spare_inputs (numbers l.pairs.vars.now) (exps l.pairs.values.now) (branches l.alternatives)
    ≡ spare_inputs (numbers l.pairs.vars.now) (exps l.pairs.values.now) (branches (drop l.guard-index l.alternatives))
