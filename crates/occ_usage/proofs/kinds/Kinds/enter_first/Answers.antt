use Rattle.std.proofs.Common.{sym}
use Rattle.occ_usage.proofs.Scoped.{environment-skip}
use Rattle.occ_usage.proofs.kinds.Kinds.enter_first.Goals as goal

pub returns-in-Some : goal.returns-in-Some
returns-in-Some c = λ rest. environment-skip _ rest c.args.name c.args.kind _ (sym c.in-Some.ensures)
