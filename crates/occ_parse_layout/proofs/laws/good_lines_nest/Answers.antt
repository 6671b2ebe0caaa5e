use Rattle.occ_parse_layout.proofs.Levels.{good_nest}
use Rattle.occ_parse_layout.proofs.laws.good_lines_nest.Goals as goal

pub returns : goal.returns
returns c = good_nest
