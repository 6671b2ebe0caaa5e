use Rattle.occ_target_laws.proofs.Reached.{shaped_programs_are_targets}
use Rattle.occ_target_laws.proofs.reached_law.shaped_programs_are_targets.Goals as goal

pub returns : goal.returns
returns c = shaped_programs_are_targets
