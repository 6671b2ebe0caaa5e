use Rattle.occ_law_shape.proofs.Fronts.{trees_two}
use Rattle.occ_law_shape.proofs.lists.pair.Goals as goal

pub returns-else-parts-eq2 : goal.returns-else-parts-eq2
returns-else-parts-eq2 c = λ p q e. c.if-parts-eq2.false (trees_two c.args.parts.now p q e)
