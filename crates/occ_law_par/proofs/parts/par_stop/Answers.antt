use Rattle.occ_law_shape.specs.occ_law.Parallel.{ParStop}
use Rattle.occ_law_par.proofs.Sides.{at_sides}
use Rattle.occ_law_par.proofs.Simple.{stop_law}
use Rattle.occ_law_par.proofs.parts.par_stop.Goals as goal

pub returns-then-is_one_with_stop : goal.returns-then-is_one_with_stop
returns-then-is_one_with_stop c =
    at_sides ParStop _ _ _ _ c.in-Par-law_case.ensures c.in-Seq-law_case.ensures
    (stop_law _ _ _ (c.is_one_with_stop.ensures.0 c.if-is_one_with_stop.true) c.same_procs.ensures)
