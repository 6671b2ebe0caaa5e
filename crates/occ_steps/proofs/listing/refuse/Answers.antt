use Rattle.occ_steps.proofs.Telling.{refusal_sayable}
use Rattle.occ_steps.proofs.listing.refuse.Goals as goal

pub returns-clause-sayable : goal.returns-clause-sayable
returns-clause-sayable c = refusal_sayable c.args.names c.args.refusal c.in_ok-answer.answer c.in_ok-answer.ensures.refused c.in_ok-answer.ensures.printable
