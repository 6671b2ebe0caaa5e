use Rattle.std.proofs.Common.{ap, ◌∙◌}
use Rattle.occ_syntax.specs.Tree.{select}
use Rattle.occ_syntax.proofs.Views.{tree-If}
use Rattle.occ_law_right.proofs.Written.{choice_written, choices_written}
use Rattle.occ_law_right.proofs.choices.into_choices.Goals as goal

pub loop-condition-preserved : goal.loop-condition-preserved
loop-condition-preserved c = choice_written _ _ _ _ _ _ _ _ _ _ c.loop-condition-test.true c.loop-condition-item.is c.in_ok-condition.ensures c.in_ok-over.ensures c.in_ok-push.ensures.ok c.loop-condition.invariant

pub returns : goal.returns
returns c = tree-If _ ∙ ap select (choices_written _ _ _ _ _ _ c.loop-condition-test.false c.loop-condition.invariant)
