use Rattle.std.proofs.Common.{◌≡◌, ◌↔◌, length, map}
use Rattle.occ_syntax.specs.Tree.{variable}
use Rattle.occ_syntax.specs.View.{exps, numbers}
use Rattle.occ_law_seq.proofs.assignment.are_variables.Given as goal

-- the expressions so far are these variables
abbrev pub invariant-loop-names : goal.invariant-loop-names
invariant-loop-names l = (exps l.rest ≡ map variable (numbers l.names)) ↔ (exps l.values ≡ map variable (numbers l.vars))

abbrev pub decreases-loop-names : goal.decreases-loop-names
decreases-loop-names l = length l.names
