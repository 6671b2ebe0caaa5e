use Rattle.occ_syntax.specs.View.{tree}
use Rattle.occ_law_scope.proofs.Sides.{var_last_law}
use Rattle.occ_law_scope.proofs.Joined.{answered, known_first, through}
use Rattle.occ_law_scope.proofs.moves.var_last.Goals as goal

pub returns-else-not-governs_first : goal.returns-else-not-governs_first
returns-else-not-governs_first c = answered c.is_unused.result c.is_unused.ensures (through (known_first (c.governs_first.ensures.0 c.if-not-governs_first.false))
    (var_last_law (tree c.args.left.now) (tree c.args.right.now) (tree c.in-Var-shape.body.now) (tree c.in-Some.first.now) (tree c.in-Some.second.now)
    c.in-Var-shape.name.0 c.in-Var-shape.width c.in-Var-shape.ensures c.in-Some.ensures))
