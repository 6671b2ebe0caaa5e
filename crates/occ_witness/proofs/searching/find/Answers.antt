use Rattle.occ_witness.proofs.Telling.{accepted_finding, refused_finding}
use Rattle.occ_witness.proofs.searching.find.Goals as goal

pub returns-in-Ok-clause-finds : goal.returns-in-Ok-clause-finds
returns-in-Ok-clause-finds c = accepted_finding c.find_in.result c.args.program.now c.args.text.now _ c.in-Ok.accepted.program c.in-Ok.ensures.accepted c.find_in.ensures.found

pub returns-in-Err-clause-finds : goal.returns-in-Err-clause-finds
returns-in-Err-clause-finds c = refused_finding c.refuse.result c.args.program.now c.args.text.now _ c.in-Err.refusal c.refuse.ensures.refused c.in-Err.ensures.refused

pub find_in-requires-clause-distinct : goal.find_in-requires-clause-distinct
find_in-requires-clause-distinct c = c.in-Ok.ensures.distinct
