use Rattle.occ_dd.proofs.Sets.{full_set}
use Rattle.occ_dd.proofs.store.Store.full.Goals as goal

pub returns : goal.returns
returns c = full_set c.args.self.now
