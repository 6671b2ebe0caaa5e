use Rattle.occ_draw.proofs.Once.{file_once}
use Rattle.occ_draw.proofs.law.one_answer.Goals as goal

pub returns : goal.returns
returns c = file_once (record { script = c.one_script.ensures.script; fault = c.one_script.ensures.fault; apart = c.one_script.ensures.apart })
