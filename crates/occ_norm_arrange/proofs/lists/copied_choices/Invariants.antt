use Rattle.std.proofs.Common.{take}
use Rattle.occ_syntax.specs.View.{in_choices}
use Rattle.occ_norm_arrange.specs.FlatArranged.{IsChoice, Pairwise}
use Rattle.occ_norm_arrange.proofs.lists.copied_choices.Given as goal

-- those so far are copied
abbrev pub invariant-loop-choice : goal.invariant-loop-choice
invariant-loop-choice l = Pairwise IsChoice (take l.choice-index l.choices) (in_choices l.copies)
