use Rattle.occ_dd.specs.Store.{sets_of}
use Rattle.occ_dd.proofs.store.Store.sets.Goals as goal

pub returns : goal.returns
unfolding sets_of
returns c = c.size.ensures
