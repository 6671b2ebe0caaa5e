use Rattle.occ_syntax.specs.View.{tree}
use Rattle.occ_law_scope.proofs.Sides.{var_first_law}
use Rattle.occ_law_scope.proofs.Joined.{answered, known_first, through}
use Rattle.occ_law_scope.proofs.moves.var_first.Goals as goal

pub returns-else-not-governs_second : goal.returns-else-not-governs_second
returns-else-not-governs_second c = answered c.is_unused.result c.is_unused.ensures (through (known_first (c.governs_second.ensures.0 c.if-not-governs_second.false))
    (var_first_law (tree c.args.left.now) (tree c.args.right.now) (tree c.in-Var-shape.body.now) (tree c.in-Some.first.now) (tree c.in-Some.second.now)
    c.in-Var-shape.name.0 c.in-Var-shape.width c.in-Var-shape.ensures c.in-Some.ensures))
