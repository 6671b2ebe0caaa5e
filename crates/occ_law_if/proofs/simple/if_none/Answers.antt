use Rattle.occ_syntax.specs.View.{tree}
use Rattle.occ_law_shape.proofs.Fronts.{test_of}
use Rattle.occ_law_if.proofs.Sides.{none_law}
use Rattle.occ_law_if.proofs.simple.if_none.Goals as goal

pub returns-in-Stop-law_case : goal.returns-in-Stop-law_case
returns-in-Stop-law_case c = none_law c.in-If-law_case.choices.now (tree c.args.left.now) (tree c.args.right.now) _ c.in-If-law_case.ensures c.in-Stop-law_case.ensures (test_of _ _ c.is_empty.ensures)
