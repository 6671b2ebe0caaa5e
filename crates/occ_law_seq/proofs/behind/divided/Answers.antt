use Rattle.std.proofs.Common.{◌<◌, length, arith}
use Rattle.occ_syntax.specs.View.{trees}
use Rattle.occ_law_shape.proofs.Fronts.{trees_end, trees_front}
use Rattle.occ_law_seq.proofs.Followers.{never_divided}
use Rattle.occ_law_seq.proofs.behind.divided.Goals as goal

pub returns-in_default : goal.returns-in_default
returns-in_default c =
    let none : length c.args.parts.now < 1 = omega arith in
    never_divided (trees c.args.parts.now) (trees_end c.args.parts.now none)

pub returns : goal.returns
returns c =
    let some : 0 < length c.args.parts.now = omega arith in
    trees_front c.args.parts.now c.first-item.result some c.first-item.is
