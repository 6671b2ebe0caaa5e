use Rattle.std.proofs.Common.{◌<◌, length, arith}
use Rattle.occ_syntax.specs.View.{branches, tree}
use Rattle.occ_law_shape.proofs.Fronts.{branches_front, test_of}
use Rattle.occ_law_seq.proofs.Communicating.{branches_gone, failed_by, io_law, io_never, never}
use Rattle.occ_law_seq.proofs.communication.is_alone.Goals as goal

pub returns-then-ends_after : goal.returns-then-ends_after
returns-then-ends_after c =
    let some : 0 < length c.args.alternatives.now = omega arith in
    io_law (tree c.args.part.now) (branches c.args.alternatives.now) _ _ _ _ _ (branches_front c.args.alternatives.now c.branch-item.result some c.branch-item.is)
    (c.ends_after.ensures.0 c.if-ends_after.true) (branches_gone _ _ (test_of _ _ c.is_empty.ensures))

pub returns-else-ends_after : goal.returns-else-ends_after
returns-else-ends_after c =
    let some : 0 < length c.args.alternatives.now = omega arith in
    failed_by c.if-ends_after.false (io_never (tree c.args.part.now) (branches c.args.alternatives.now) _ _ _ _ (branches_front c.args.alternatives.now c.branch-item.result some c.branch-item.is)
    (λ k. never c.if-ends_after.false (c.ends_after.ensures.1 k)))
