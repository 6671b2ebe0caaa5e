use Rattle.occ_syntax.specs.View.{exps, numbers, tree}
use Rattle.occ_law_scope.proofs.OnePair.{only_pair_is}
use Rattle.occ_law_scope.proofs.turns.only_pair.Goals as goal

pub returns-in-Assign : goal.returns-in-Assign
returns-in-Assign c = only_pair_is (tree c.args.part.now) (numbers c.in-Assign.vars.now) (exps c.in-Assign.values.now) c.one_pair.result c.in-Assign.ensures c.one_pair.ensures
