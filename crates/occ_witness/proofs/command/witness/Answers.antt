use Rattle.occ_witness.proofs.Telling.{tells_all}
use Rattle.occ_witness.proofs.command.witness.Goals as goal

pub returns-clause-answers : goal.returns-clause-answers
returns-clause-answers c = tells_all c.args.program.now c.args.text.now c.in_ok-found.found _ _ c.in_ok-found.ensures.finds c.status.ensures.status c.in_ok-text.ensures
