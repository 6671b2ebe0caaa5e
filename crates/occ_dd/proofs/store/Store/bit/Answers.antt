use Rattle.std.proofs.Common.{arith}
use Rattle.occ_dd.proofs.Sets.{depth-empty, depth-full, keeps_grown, bit_grown}
use Rattle.occ_dd.proofs.store.Store.bit.Goals as goal

pub branch-self-requires-clause-low : goal.branch-self-requires-clause-low
branch-self-requires-clause-low c = (c.args.self.now.empty_known, omega (arith, depth-empty c.args.self.now))

pub branch-self-requires-clause-high : goal.branch-self-requires-clause-high
branch-self-requires-clause-high c = (c.args.self.now.full_known, omega (arith, depth-full c.args.self.now))

pub returns-in_err-branch-clause-keeps : goal.returns-in_err-branch-clause-keeps
returns-in_err-branch-clause-keeps c = keeps_grown c.args.self.now c.branch-self.new.self c.branch-self.ensures.grows

pub returns-clause-keeps : goal.returns-clause-keeps
returns-clause-keeps c = keeps_grown c.args.self.now c.branch-self.new.self c.branch-self.ensures.grows

pub returns-clause-set : goal.returns-clause-set
returns-clause-set c = bit_grown c.args.self.now c.branch-self.new.self c.args.bit c.in_ok-branch.field-0 c.branch-self.ensures.grows c.in_ok-branch.ensures.split
