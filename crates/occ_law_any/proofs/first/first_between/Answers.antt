use Rattle.std.proofs.Common.{arith}
use Rattle.occ_syntax.specs.View.{tree}
use Rattle.occ_law_any.proofs.Directing.{last_more, none_more, one_more}
use Rattle.occ_law_any.proofs.first.first_between.Goals as goal

pub loop-front-preserved : goal.loop-front-preserved
loop-front-preserved c =
    one_more c.args.asked.now.law.0 c.args.asked.now.scope.now (tree c.args.asked.now.left.now) c.loop-front.front c.args.breadth c.loop-front.invariant
    (none_more c.args.asked.now.law.0 c.args.asked.now.scope.now (tree c.args.asked.now.left.now) c.loop-front.front c.args.breadth c.in_ok-found.field-0 c.in_default.not-Some
    c.in_ok-found.ensures)

pub returns : goal.returns
returns c =
    last_more c.args.asked.now.law.0 c.args.asked.now.scope.now (tree c.args.asked.now.left.now) c.loop-front.front c.args.breadth (omega arith) c.loop-front.invariant
    c.first_more-2.result c.first_more-2.ensures
