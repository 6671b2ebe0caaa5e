use Rattle.occ_prove.proofs.Reading.{first_refused, header_there, no_header_there, pair_of, second_refused}
use Rattle.occ_prove.proofs.pair.read_pair.Goals as goal

pub returns-in-Err-clause-none : goal.returns-in-Err-clause-none
returns-in-Err-clause-none c = first_refused c.unpaired.result c.args.one.now c.args.two.now _ c.in-Err.refusal c.unpaired.ensures.known c.in-Err.ensures.refused

pub returns-in-Err-accept-clause-none : goal.returns-in-Err-accept-clause-none
returns-in-Err-accept-clause-none c =
    second_refused c.unpaired-in-Err-accept.result c.args.one.now c.args.two.now _ _ c.in-Ok.accepted.program c.in-Err-accept.refusal c.unpaired-in-Err-accept.ensures.known
    c.in-Ok.ensures.accepted c.in-Err-accept.ensures.refused

pub returns-then-have_one_header-clause-pair : goal.returns-then-have_one_header-clause-pair
returns-then-have_one_header-clause-pair c =
    pair_of c.parameters_have_names.ensures c.args.one.now c.args.two.now _ _ c.in-Ok.ensures.accepted c.in-Ok-accept.ensures.accepted
    (header_there c.in-Ok.accepted.program c.in-Ok-accept.accepted.program _ _ c.program.ensures.same c.program-2.ensures.same (c.have_one_header.ensures.0 c.if-have_one_header.true))

pub returns-else-have_one_header-clause-none : goal.returns-else-have_one_header-clause-none
returns-else-have_one_header-clause-none c =
    no_header_there c.args.one.now c.args.two.now _ _ c.in-Ok.accepted.program c.in-Ok-accept.accepted.program _ _ c.have_one_header.result c.in-Ok.ensures.accepted
    c.in-Ok-accept.ensures.accepted c.program.ensures.same c.program-2.ensures.same c.if-have_one_header.false c.have_one_header.ensures.1
