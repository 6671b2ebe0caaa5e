use Rattle.occ_dd.proofs.Sets.{empty_set}
use Rattle.occ_dd.proofs.store.Store.empty.Goals as goal

pub returns : goal.returns
returns c = empty_set c.args.self.now
