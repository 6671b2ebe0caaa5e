use Rattle.occ_nform_read.proofs.Ranks.{set_at, mark_is}
use Rattle.occ_nform_read.proofs.sets.set_fault.Goals as goal

pub returns : goal.returns
returns c =
    mark_is c.args.line c.args.offers.now c.args.sets.now c.args.i c.items-set.result.now c.is_placed-placed.result c.is_least-least.result c.mark_fault.result
    (set_at c.args.sets.now c.args.i c.index-sets-i.result c.items-set.result.now c.requires.place c.index-sets-i.is c.items-set.ensures) c.is_placed-placed.ensures c.is_least-least.ensures c.mark_fault.ensures
