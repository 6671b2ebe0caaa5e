use Rattle.occ_examples.proofs.schedules.a_communication_is_one_step.Goals as goal
use Rattle.occ_law.specs.occ_base.declared.width.Width.TheVariants.{Word}
use Rattle.occ_run_steps.specs.Control.{Control, and_control, both, channel, no_control, unbegun}
use Rattle.occ_run_steps.specs.Leads.{at_rest, by_step}
use Rattle.occ_run_steps.specs.Step.{Step, step}
use Rattle.occ_law.specs.occ_syntax.Scopes.{with_value}
use Rattle.occ_law.specs.occ_syntax.Tree.{skip}
use Rattle.occ_examples.specs.Programs.{d, holding, y}
use Rattle.std.proofs.Common.{[], ◌∷◌, None, refl}

-- the output and the input together
abbrev passed : Step Control
passed = step None ((y, 2) ∷ []) (channel d (Word 2) (both (and_control (unbegun skip) (and_control (unbegun skip) no_control))))

pub returns : goal.returns
returns given = (refl, (refl, record { last = with_value (holding 2 0) y 2; leads = by_step 0 passed refl at_rest; of_x = refl; of_y = refl }))
