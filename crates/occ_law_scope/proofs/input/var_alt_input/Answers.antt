use Rattle.occ_syntax.specs.Scopes.{environment}
use Rattle.occ_syntax.specs.View.{tree}
use Rattle.occ_law_scope.proofs.Inputs.{var_alt_input_law}
use Rattle.occ_law_scope.proofs.Joined.{answered}
use Rattle.occ_law_scope.proofs.input.var_alt_input.Goals as goal

pub returns-in-Some : goal.returns-in-Some
returns-in-Some c = answered c.has_other_input.result c.has_other_input.ensures
    (var_alt_input_law (environment c.args._scope.now) (tree c.args.left.now) (tree c.args.right.now) (tree c.in-Var-shape.body.now) (tree c.in-Some.other.now) c.in-Var-shape.name.0
    c.in-Var-shape.width c.in-Var-shape.ensures c.in-Some.ensures c.requires.left c.requires.right)
