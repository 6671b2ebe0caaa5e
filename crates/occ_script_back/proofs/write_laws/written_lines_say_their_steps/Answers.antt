use Rattle.occ_script_back.proofs.Saying.{step_said}
use Rattle.occ_script_back.proofs.write_laws.written_lines_say_their_steps.Goals as goal

pub returns : goal.returns
returns c = step_said
