use Rattle.std.proofs.Common.{ap, ◌∙◌}
use Rattle.occ_syntax.specs.Tree.{par}
use Rattle.occ_syntax.proofs.Views.{tree-Par}
use Rattle.occ_law_right.proofs.Written.{part_written, parts_written}
use Rattle.occ_law_right.proofs.moves.beside.Goals as goal

pub loop-part-preserved : goal.loop-part-preserved
loop-part-preserved c = part_written _ _ _ _ _ _ _ c.loop-part-test.true c.part-item.is c.in_ok-copy.ensures c.in_ok-push-2.ensures.ok c.loop-part.invariant

pub returns : goal.returns
returns c = tree-Par _ ∙ ap par (parts_written _ _ _ _ c.loop-part-test.false c.loop-part.invariant)
