use Rattle.std.proofs.Common.{◌<◌, ◌≤◌, length, arith}
use Rattle.occ_syntax.specs.View.{tree}
use Rattle.occ_law_shape.specs.occ_law.Instances.{sizes}
use Rattle.occ_law_if.proofs.Parting.{split_at, too_far}
use Rattle.occ_law_if.proofs.chosen.parted.Goals as goal

pub returns-then-size-choices : goal.returns-then-size-choices
returns-then-size-choices c =
    let beyond : length c.in_ok-choices.choices.now < c.in_ok-size.size = omega arith in
    too_far (sizes c.args.place) (tree c.args.part.now) c.in_ok-size.size c.in_ok-choices.choices.now c.in_ok-size.ensures c.in_ok-choices.ensures beyond

pub returns : goal.returns
returns c =
    let within : c.in_ok-size.size ≤ length c.in_ok-choices.choices.now = omega arith in
    split_at (sizes c.args.place) (tree c.args.part.now) c.in_ok-size.size c.in_ok-choices.choices.now c.in_ok-size.ensures c.in_ok-choices.ensures within
