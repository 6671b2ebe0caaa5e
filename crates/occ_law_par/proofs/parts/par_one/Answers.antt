use Rattle.std.proofs.Common.{refl}
use Rattle.occ_syntax.specs.View.{tree, trees}
use Rattle.occ_law_shape.specs.occ_law.Parallel.{ParOne}
use Rattle.occ_law_par.proofs.Sides.{at_sides}
use Rattle.occ_law_par.proofs.Simple.{one_law}
use Rattle.occ_law_par.proofs.parts.par_one.Goals as goal

pub returns-in-Some : goal.returns-in-Some
returns-in-Some c =
    at_sides ParOne _ _ _ _ c.in-Par-shape.ensures refl (one_law (trees c.in-Par-shape.parts.now) (tree c.in-Some.part.now) (tree c.args.right.now) _ c.in-Some.ensures c.same_proc.ensures)
