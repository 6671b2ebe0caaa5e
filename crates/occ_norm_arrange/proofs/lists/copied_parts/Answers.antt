use Rattle.occ_norm_arrange.proofs.Congruent.{all_items, none_yet, one_more, up_to}
use Rattle.occ_norm_arrange.specs.FlatArranged.{IsPart}
use Rattle.occ_norm_arrange.proofs.lists.copied_parts.Goals as goal

pub loop-part-init : goal.loop-part-init
loop-part-init c = none_yet IsPart _ c.new-copies.ensures

pub loop-part-preserved : goal.loop-part-preserved
loop-part-preserved c =
    up_to IsPart _ _ _ _ c.loop-part-test.true c.part-item.is
    (one_more IsPart _ _ _ _ _ c.loop-part.invariant c.in_ok-part_as.ensures c.in_ok-push.ensures.ok)

pub returns : goal.returns
returns c = all_items IsPart _ _ _ c.loop-part-test.false c.loop-part.invariant
