use Rattle.std.proofs.Common.{length}
use Rattle.occ_dd.proofs.store.Store.+choose_rows.Given as goal

abbrev pub decreases-choose_rows : goal.decreases-choose_rows
decreases-choose_rows l = length l.inputs.now
