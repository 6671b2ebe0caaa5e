use Rattle.occ_run.proofs.Led.{is_led}
use Rattle.occ_run.proofs.law.numbers_that_are_followed_lead.Goals as goal

pub returns : goal.returns
returns c = is_led
