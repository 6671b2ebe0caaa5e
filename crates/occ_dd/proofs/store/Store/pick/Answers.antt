use Rattle.occ_dd.proofs.Sets.{known_size}
use Rattle.occ_dd.proofs.Least.{least_member, is_empty}
use Rattle.occ_dd.proofs.store.Store.pick.Goals as goal

pub least-requires-clause-known : goal.least-requires-clause-known
least-requires-clause-known c = known_size c.args.self.now c.args.a c.requires

pub returns-then-a-self : goal.returns-then-a-self
returns-then-a-self c = is_empty c.args.self.now c.args.a c.if-a-self.true

pub returns-else-a-self : goal.returns-else-a-self
returns-else-a-self c = least_member c.args.self.now c.args.a c.least.result c.least.ensures
