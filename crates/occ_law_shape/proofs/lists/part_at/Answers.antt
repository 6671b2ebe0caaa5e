use Rattle.std.proofs.Common.{◌<◌, ◌≤◌, length, arith}
use Rattle.occ_law_shape.proofs.Parting.{front_size, none_at, parted_at}
use Rattle.occ_law_shape.proofs.lists.part_at.Goals as goal

pub returns-then-size-parts : goal.returns-then-size-parts
returns-then-size-parts c =
    let beyond : length c.args.parts.now ≤ c.args.size = omega arith in
    none_at c.args.parts.now c.args.size beyond

pub returns : goal.returns
returns c =
    let within : c.args.size < length c.args.parts.now = omega arith in
    (parted_at c.args.parts.now c.args.size c.index-parts-size.result within c.index-parts-size.is, front_size c.args.parts.now c.args.size within)
