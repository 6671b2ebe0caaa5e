use Rattle.std.proofs.Common.{◌≡◌, ◌↔◌, length}
use Rattle.occ_law_shape.specs.occ_law.Lists.{names_without}
use Rattle.occ_syntax.specs.View.{numbers}
use Rattle.occ_law_seq.proofs.kept.are_names_without.Given as goal

-- the names so far are the variables so far, but for one
abbrev pub invariant-loop-vars : goal.invariant-loop-vars
invariant-loop-vars l = (numbers l.rest ≡ names_without l.var.0 (numbers l.vars)) ↔ (numbers l.names ≡ names_without l.var.0 (numbers l.pairs.vars.now))

abbrev pub decreases-loop-vars : goal.decreases-loop-vars
decreases-loop-vars l = length l.vars
