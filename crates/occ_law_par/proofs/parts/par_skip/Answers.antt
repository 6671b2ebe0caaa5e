use Rattle.occ_law_shape.specs.occ_law.Parallel.{ParSkip}
use Rattle.occ_law_par.proofs.Going.{skip_law}
use Rattle.occ_law_par.proofs.Sides.{at_sides, through}
use Rattle.occ_law_par.proofs.parts.par_skip.Goals as goal

pub returns-in-Par-law_case-law_case : goal.returns-in-Par-law_case-law_case
returns-in-Par-law_case-law_case c =
    at_sides ParSkip _ _ _ _ c.in-Par-law_case.ensures c.in-Par-law_case-law_case.ensures (through c.somewhere.ensures (skip_law _ _))
