use Rattle.occ_law_shape.proofs.Fronts.{trees_one}
use Rattle.occ_law_shape.proofs.lists.only.Goals as goal

pub returns-else-parts-eq1 : goal.returns-else-parts-eq1
returns-else-parts-eq1 c = λ p e. c.if-parts-eq1.false (trees_one c.args.parts.now p e)
