use Rattle.occ_renamed.proofs.Elements.{program_same}
use Rattle.occ_renamed.proofs.parse_laws.places_are_renamed.Goals as goal

pub returns : goal.returns
returns c = λ f params below one. program_same f one params below
