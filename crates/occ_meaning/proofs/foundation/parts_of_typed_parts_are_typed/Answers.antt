use Rattle.occ_meaning.proofs.Contexts.{part_types}
use Rattle.occ_meaning.proofs.foundation.parts_of_typed_parts_are_typed.Goals as goal

pub returns : goal.returns
returns c = part_types
