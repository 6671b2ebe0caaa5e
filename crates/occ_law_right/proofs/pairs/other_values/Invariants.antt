use Rattle.std.proofs.Common.{◌≡◌, ◌++◌, drop, length}
use Rattle.occ_law_seq.specs.occ_law.Lists.{values_without}
use Rattle.occ_syntax.specs.View.{exps, numbers}
use Rattle.occ_law_right.proofs.pairs.other_values.Given as goal

-- what is written, and behind it what is still to be written
abbrev pub invariant-loop-var : goal.invariant-loop-var
invariant-loop-var l =
    exps l.made ++ values_without l.name.0 (numbers (drop (length l.yielded) l.vars)) (exps (drop (length l.yielded) l.values))
    ≡ values_without l.name.0 (numbers l.vars) (exps l.values)
