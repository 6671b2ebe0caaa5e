use Rattle.occ_lts.proofs.Steps.{steps_are}
use Rattle.occ_lts.proofs.law.steps_are_those_of_rows.Goals as goal

pub returns : goal.returns
returns c = steps_are
