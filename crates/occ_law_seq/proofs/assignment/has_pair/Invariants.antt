use Rattle.std.proofs.Common.{◌↔◌, length}
use Rattle.occ_syntax.specs.View.{exp, exps, numbers}
use Rattle.occ_law_seq.specs.Assignment.{HasPair}
use Rattle.occ_law_seq.proofs.assignment.has_pair.Given as goal

-- no pair so far is it
abbrev pub invariant-loop-vars : goal.invariant-loop-vars
invariant-loop-vars l = HasPair (numbers l.vars) (exps l.values) l.var.0 (exp l.value) ↔ HasPair (numbers l.pairs.vars.now) (exps l.pairs.values.now) l.var.0 (exp l.value)

abbrev pub decreases-loop-vars : goal.decreases-loop-vars
decreases-loop-vars l = length l.vars
