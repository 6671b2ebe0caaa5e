use Rattle.std.proofs.Common.{◌==◌, ap, length, sym, ◌∙◌}
use Rattle.occ_norm_arrange.proofs.InTurn.{front_alone, front_and_last}
use Rattle.occ_norm_arrange.proofs.split.Split.in_turn.Goals as goal

pub returns-then-is_empty : goal.returns-then-is_empty
returns-then-is_empty c = λ ps a. front_alone ps _ _ _ _ (ap (λ xs. length xs == 0) (sym c.items.ensures) ∙ (sym c.is_empty.ensures ∙ c.if-is_empty.true)) a

pub returns : goal.returns
returns c = λ ps a. front_and_last ps _ _ _ _ _ _ c.in_ok-push.ensures.ok c.in_ok-together.ensures a
