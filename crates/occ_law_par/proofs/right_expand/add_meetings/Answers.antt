use Rattle.std.proofs.Common.{◌<◌, length, arith}
use Rattle.occ_law_shape.specs.occ_law.Parallel.{meetings}
use Rattle.occ_syntax.specs.View.{branches, in_alternatives}
use Rattle.occ_law_shape.proofs.Fronts.{branches_end}
use Rattle.occ_law_par.proofs.Putting.{meetings_whole}
use Rattle.occ_law_par.proofs.right_expand.add_meetings.Goals as goal

pub returns : goal.returns
returns c =
    let none : length c.loop-rest.rest.now < 1 = omega arith in
    meetings_whole (branches (in_alternatives c.loop-rest.made)) (branches (in_alternatives c.args.made.now)) (branches c.loop-rest.rest.now) (branches c.args.seconds.now)
    (meetings (branches c.args.firsts.now) (branches c.args.seconds.now)) (branches_end c.loop-rest.rest.now none) c.loop-rest.invariant
