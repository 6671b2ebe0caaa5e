use Rattle.occ_parse_layout.proofs.Once.{one_forest_of}
use Rattle.occ_parse_layout.proofs.laws.one_forest.Goals as goal

pub returns : goal.returns
returns c = one_forest_of
