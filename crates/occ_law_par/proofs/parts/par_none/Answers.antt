use Rattle.occ_law_shape.specs.occ_law.Parallel.{ParNone}
use Rattle.occ_law_shape.proofs.Fronts.{test_of}
use Rattle.occ_law_par.proofs.Sides.{at_sides}
use Rattle.occ_law_par.proofs.Simple.{none_law}
use Rattle.occ_law_par.proofs.parts.par_none.Goals as goal

pub returns-in-Skip-law_case : goal.returns-in-Skip-law_case
returns-in-Skip-law_case c =
    at_sides ParNone _ _ _ _ c.in-Par-law_case.ensures c.in-Skip-law_case.ensures (none_law c.in-Par-law_case.parts.now _ (test_of _ _ c.is_empty.ensures))
