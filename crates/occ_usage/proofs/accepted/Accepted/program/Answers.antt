use Rattle.occ_usage.proofs.Law.{faultless_keeps}
use Rattle.occ_usage.proofs.accepted.Accepted.program.Goals as goal

pub returns-clause-accepted : goal.returns-clause-accepted
returns-clause-accepted c = faultless_keeps c.args.self.now.program c.args.self.now.kept
