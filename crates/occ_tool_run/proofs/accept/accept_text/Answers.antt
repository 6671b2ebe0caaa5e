use Rattle.occ_tool_run.proofs.Accepting.{accepted_as, refused_for}
use Rattle.occ_tool_run.proofs.accept.accept_text.Goals as goal

pub returns-in-Ok-clause-accepted : goal.returns-in-Ok-clause-accepted
returns-in-Ok-clause-accepted c = accepted_as c.args.text.now c.args.names.now c.parse.new.names c.in-Ok.read.program c.in-Ok.read.lines c.accept_program.result c.in-Ok.ensures.found c.in-Ok.ensures.known c.accept_program.ensures.accepted

pub returns-in-Ok-clause-refused : goal.returns-in-Ok-clause-refused
returns-in-Ok-clause-refused c = refused_for c.args.text.now c.args.names.now c.parse.new.names c.in-Ok.read.program c.in-Ok.read.lines c.accept_program.result c.in-Ok.ensures.found c.in-Ok.ensures.known c.accept_program.ensures.refused
