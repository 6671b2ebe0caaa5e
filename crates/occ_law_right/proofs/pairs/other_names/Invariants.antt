use Rattle.std.proofs.Common.{◌≡◌, ◌++◌, drop}
use Rattle.occ_law_seq.specs.occ_law.Lists.{names_without}
use Rattle.occ_syntax.specs.View.{numbers}
use Rattle.occ_law_right.proofs.pairs.other_names.Given as goal

-- what is written, and behind it what is still to be written
abbrev pub invariant-loop-var : goal.invariant-loop-var
invariant-loop-var l = numbers l.made ++ names_without l.name.0 (numbers (drop l.var-index l.vars)) ≡ names_without l.name.0 (numbers l.vars)
