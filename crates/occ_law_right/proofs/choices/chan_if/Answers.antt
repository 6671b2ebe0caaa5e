use Rattle.occ_law_right.proofs.Sides.{chan_if_only}
use Rattle.occ_law_right.proofs.choices.chan_if.Goals as goal

pub returns-in_ok-into_choices-in-If : goal.returns-in_ok-into_choices-in-If
returns-in_ok-into_choices-in-If c = chan_if_only _ _ _ _ _ _ c.in-Chan.ensures c.in-If.ensures c.in_ok-into_choices-in-If.ensures
