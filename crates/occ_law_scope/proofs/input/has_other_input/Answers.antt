use Rattle.occ_syntax.specs.View.{branches, tree}
use Rattle.occ_law_scope.proofs.Inputs.{alt_input_is}
use Rattle.occ_law_scope.proofs.Joined.{answered, known_first, through}
use Rattle.occ_law_scope.proofs.input.has_other_input.Goals as goal

pub returns-else-not-is_other_input : goal.returns-else-not-is_other_input
returns-else-not-is_other_input c = answered c.is_unused.result c.is_unused.ensures (through (known_first (c.is_other_input.ensures.0 c.if-not-is_other_input.false))
    (alt_input_is c.args.name.0 (tree c.args.body.now) (tree c.args.other.now) (branches c.in-Alt-shape.alternatives.now) (branches c.in-Alt-shape-shape.others.now)
    c.in-Alt-shape.ensures c.in-Alt-shape-shape.ensures))
