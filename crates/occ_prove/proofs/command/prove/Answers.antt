use Rattle.occ_prove.proofs.Telling.{tells_all}
use Rattle.occ_prove.proofs.command.prove.Goals as goal

pub returns-clause-answers : goal.returns-clause-answers
returns-clause-answers c = tells_all c.args.first.now c.args.second.now c.in_ok-proof.proof _ _ c.in_ok-proof.ensures.proves c.status.ensures.status c.in_ok-text.ensures
