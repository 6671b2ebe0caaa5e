use Rattle.std.proofs.Common.{◌<◌, length, arith}
use Rattle.occ_syntax.specs.View.{in_procs, tree, trees}
use Rattle.occ_law_shape.proofs.Fronts.{trees_end, trees_front}
use Rattle.occ_law_shape.proofs.Putting.{parts_step, parts_whole}
use Rattle.occ_law_shape.proofs.made.add_copies.Goals as goal

pub loop-rest-preserved : goal.loop-rest-preserved
loop-rest-preserved c =
    let some : 0 < length c.loop-rest.rest.now = omega arith in
    parts_step (in_procs c.loop-rest.made) (in_procs c.push.new.self) c.in_ok-copy.field-0 (tree c.part-item.result) (trees (in_procs c.args.made.now)) (trees c.args.parts.now)
    (trees c.loop-rest.rest.now) _ c.in_ok-push.ensures.ok c.in_ok-copy.ensures (trees_front c.loop-rest.rest.now c.part-item.result some c.part-item.is) c.loop-rest.invariant

pub returns : goal.returns
returns c =
    let none : length c.loop-rest.rest.now < 1 = omega arith in
    parts_whole (trees (in_procs c.loop-rest.made)) (trees (in_procs c.args.made.now)) (trees c.args.parts.now) (trees c.loop-rest.rest.now) (trees_end c.loop-rest.rest.now none) c.loop-rest.invariant
