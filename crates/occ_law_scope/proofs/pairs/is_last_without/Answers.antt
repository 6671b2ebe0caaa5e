use Rattle.occ_syntax.specs.View.{exps, numbers, tree}
use Rattle.occ_law_scope.proofs.Dropped.{without_is}
use Rattle.occ_law_scope.proofs.Joined.{through}
use Rattle.occ_law_scope.proofs.pairs.is_last_without.Goals as goal

pub returns-in-Assign : goal.returns-in-Assign
returns-in-Assign c = through c.is_assigned_without.ensures
    (without_is c.args.name.0 (tree c.args.last.now) (tree c.args.other.now) (numbers c.in-Assign.vars.now) (exps c.in-Assign.values.now) c.in-Assign.ensures)
