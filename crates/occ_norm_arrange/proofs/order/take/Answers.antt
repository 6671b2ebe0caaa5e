use Rattle.std.proofs.Common.{◌<◌, arith, length}
use Rattle.occ_meaning.specs.Parallel.{as_they_are}
use Rattle.occ_syntax.specs.View.{in_procs}
use Rattle.occ_norm_arrange.proofs.Orders.{taken}
use Rattle.occ_norm_arrange.proofs.order.take.Goals as goal

pub returns-then-len-at-clause-order : goal.returns-then-len-at-clause-order
returns-then-len-at-clause-order c = as_they_are

pub returns-clause-order : goal.returns-clause-order
returns-clause-order c =
    let there : c.args.at < length c.args.rest.now.items = omega (arith, c.if-len-at.false, c.len.ensures, c.args.rest.now.ok) in
    taken (in_procs c.args.sorted.now) (in_procs c.push.new.self) c.args.rest.now.items c.remove-part.new.self.items c.args.at c.remove-part.result there
    c.remove-part.ensures.value c.remove-part.ensures.by_index.2 c.in_ok-push.ensures.ok
