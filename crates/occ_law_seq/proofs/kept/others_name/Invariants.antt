use Rattle.std.proofs.Common.{◌≡◌, length}
use Rattle.occ_law_shape.specs.occ_law.Lists.{values_without}
use Rattle.occ_syntax.specs.Names.{some_names}
use Rattle.occ_syntax.specs.View.{exps, numbers}
use Rattle.occ_law_seq.proofs.kept.others_name.Given as goal

-- none of the other right sides so far names the variable
abbrev pub invariant-loop-vars : goal.invariant-loop-vars
invariant-loop-vars l = some_names (values_without l.var.0 (numbers l.vars) (exps l.values)) l.var.0
    ≡ some_names (values_without l.var.0 (numbers l.pairs.vars.now) (exps l.pairs.values.now)) l.var.0

abbrev pub decreases-loop-vars : goal.decreases-loop-vars
decreases-loop-vars l = length l.vars
