-- What is seen of a part as it is kept.
use Rattle.occ_parse_rules.specs.Forest.{Forest, forest, in_nodes}
use Rattle.occ_parse_part.specs.declared.raw.Raw.{Raw}
use Rattle.occ_parse_part.specs.Elements.{Elements}
use Rattle.occ_parse_part.specs.Parts.{Part}
use Rattle.occ_parse_part.specs.Seen.{seen}

-- its lines, and the names of its elements
abbrev pub lines_of : Raw → Forest
lines_of raw = forest (in_nodes raw.nodes)

abbrev pub elements_of : Raw → Elements
elements_of raw = seen raw.elements

abbrev pub part_of : Raw → Part
part_of raw = record { lines = lines_of raw; elements = elements_of raw }
