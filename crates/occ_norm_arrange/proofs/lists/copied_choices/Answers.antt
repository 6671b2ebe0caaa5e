use Rattle.occ_norm_arrange.proofs.Congruent.{all_items, none_yet, one_more, up_to}
use Rattle.occ_norm_arrange.specs.FlatArranged.{IsChoice}
use Rattle.occ_norm_arrange.proofs.lists.copied_choices.Goals as goal

pub loop-choice-init : goal.loop-choice-init
loop-choice-init c = none_yet IsChoice _ c.new-copies.ensures

pub loop-choice-preserved : goal.loop-choice-preserved
loop-choice-preserved c =
    up_to IsChoice _ _ _ _ c.loop-choice-test.true c.choice-item.is
    (one_more IsChoice _ _ _ _ _ c.loop-choice.invariant c.in_ok-choice_as.ensures c.in_ok-push.ensures.ok)

pub returns : goal.returns
returns c = all_items IsChoice _ _ _ c.loop-choice-test.false c.loop-choice.invariant
