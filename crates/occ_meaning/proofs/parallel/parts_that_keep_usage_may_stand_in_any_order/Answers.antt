use Rattle.occ_meaning.proofs.Parts.{each_written_apart, par_reordered}
use Rattle.occ_meaning.proofs.parallel.parts_that_keep_usage_may_stand_in_any_order.Goals as goal

pub returns : goal.returns
returns c = λ Γ ps qs r k. par_reordered Γ ps qs r k.types (each_written_apart ps k.usage.1)
