use Rattle.occ_parse_layout.proofs.Framed.{part_inner_of}
use Rattle.occ_parse_layout.proofs.laws.good_parts_have_no_header.Goals as goal

pub returns : goal.returns
returns c = part_inner_of
