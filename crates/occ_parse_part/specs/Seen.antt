-- What is seen of the names of elements as they are kept.
use Rattle.occ_parse_part.specs.declared.elements.Elements.{Elements as Kept}
use Rattle.occ_parse_part.specs.Elements.{Elements, kept_in}

abbrev pub seen : Kept → Elements
seen e = kept_in e.rows.entries (λ row. row.items) e.places.entries
