use Rattle.std.proofs.Common.{◌∙◌}
use Rattle.occ_parse_unroll.proofs.Steps.{places_of_array}
use Rattle.occ_parse_unroll.proofs.counting.places.Goals as goal

pub returns-in-Array-clause-number : goal.returns-in-Array-clause-number
returns-in-Array-clause-number c = c.from.ensures ∙ places_of_array _ _ _ c.in-Array.is
