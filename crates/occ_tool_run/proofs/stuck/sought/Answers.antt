use Rattle.std.proofs.Common.{refl}
use Rattle.occ_tool_run.proofs.Named.{found_named}
use Rattle.occ_tool_run.proofs.stuck.sought.Goals as goal

pub returns-clause-sought : goal.returns-clause-sought
returns-clause-sought c = record { found = c.in_ok-found.found; is = c.in_ok-found.ensures.deadlock; answer_is = refl }

pub returns-clause-printable : goal.returns-clause-printable
returns-clause-printable c = found_named c.args.accepted.now.program.params c.args.names c.requires.params c.in_ok-found.found c.in_ok-found.ensures.named
