use Rattle.std.proofs.Common.{◌∙◌}
use Rattle.occ_parse_unroll.proofs.Steps.{places_of_array}
use Rattle.occ_parse.proofs.drafting.places.Goals as goal

pub returns-in-Array-clause-number : goal.returns-in-Array-clause-number
returns-in-Array-clause-number c = c.from.ensures ∙ places_of_array c.args.declared c.in-Array.field-0 c.in-Array.count c.in-Array.is
