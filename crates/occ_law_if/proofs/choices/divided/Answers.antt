use Rattle.std.proofs.Common.{◌<◌, length, arith}
use Rattle.occ_syntax.specs.View.{cases}
use Rattle.occ_law_shape.proofs.Fronts.{cases_end, cases_front}
use Rattle.occ_law_if.proofs.Fronts.{never_divided}
use Rattle.occ_law_if.proofs.choices.divided.Goals as goal

pub returns-in_default : goal.returns-in_default
returns-in_default c =
    let none : length c.args.choices.now < 1 = omega arith in
    never_divided (cases c.args.choices.now) (cases_end c.args.choices.now none)

pub returns : goal.returns
returns c =
    let some : 0 < length c.args.choices.now = omega arith in
    cases_front c.args.choices.now c.first-item.result some c.first-item.is
