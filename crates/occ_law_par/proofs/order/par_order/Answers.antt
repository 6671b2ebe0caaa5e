use Rattle.std.proofs.lemmas.Result.{IfOk-weaker}
use Rattle.occ_law_par.proofs.Reordering.{order_law}
use Rattle.occ_law_par.proofs.Sides.{at_sides, through}
use Rattle.occ_law_shape.specs.occ_law.Parallel.{ParOrder}
use Rattle.occ_law_par.proofs.order.par_order.Goals as goal

pub returns-in-Par-law_case-law_case : goal.returns-in-Par-law_case-law_case
returns-in-Par-law_case-law_case c = IfOk-weaker _ _ _ (λ answer test.
    at_sides ParOrder _ _ _ _ c.in-Par-law_case.ensures c.in-Par-law_case-law_case.ensures (through test (order_law _ _))) c.are_reordered.ensures
