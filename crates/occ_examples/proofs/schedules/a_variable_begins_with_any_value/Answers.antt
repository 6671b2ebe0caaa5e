use Rattle.occ_examples.proofs.schedules.a_variable_begins_with_any_value.Goals as goal
use Rattle.occ_law.specs.occ_base.declared.width.Width.TheVariants.{Word}
use Rattle.occ_run_steps.specs.Control.{Control, done, local, unbegun}
use Rattle.occ_run_steps.specs.Leads.{at_rest, by_step}
use Rattle.occ_run_steps.specs.Step.{Step, step}
use Rattle.occ_law.specs.occ_syntax.Scopes.{with_value}
use Rattle.occ_law.specs.occ_syntax.Tree.{variable}
use Rattle.occ_examples.specs.Programs.{holding, set, y, z}
use Rattle.std.proofs.Common.{[], ◌∷◌, None, refl}

abbrev begun : Step Control
begun = step None [] (local z (Word 2) 3 (unbegun (set y (variable z))))

abbrev set_y : Step Control
set_y = step None ((y, 3) ∷ []) (local z (Word 2) 3 done)

pub returns : goal.returns
returns given = (refl, record { last = with_value (holding 1 0) y 3; leads = by_step 3 begun refl (by_step 0 set_y refl at_rest); of_x = refl; of_y = refl })
