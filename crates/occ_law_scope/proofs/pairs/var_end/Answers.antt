use Rattle.occ_syntax.specs.View.{tree}
use Rattle.occ_law_scope.proofs.Dropped.{var_end_law}
use Rattle.occ_law_scope.proofs.Joined.{through}
use Rattle.occ_law_scope.proofs.pairs.var_end.Goals as goal

pub returns-in-Some : goal.returns-in-Some
returns-in-Some c = through c.ends_without.ensures
    (var_end_law (tree c.args.left.now) (tree c.args.right.now) (tree c.in-Var-shape.body.now) (tree c.in-Some.other.now) c.in-Var-shape.name.0 c.in-Var-shape.width
    c.in-Var-shape.ensures c.in-Some.ensures)
