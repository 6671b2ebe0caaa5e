-- What is asked of the places on a line.
use Rattle.std.specs.Prelude.{Bool, not, ◌||◌, Option, is_none}
use Rattle.occ_syntax.specs.occ_base.declared.width.Width.{Width}
use Rattle.occ_parse_forms.specs.declared.form.Item.{Item}
use Rattle.occ_parse_rules.specs.declared.sort.Sort.{Sort}
use Rattle.occ_parse_rules.specs.Names.{index_counts}
use Rattle.occ_parse_rules.specs.Places.{Sorts, Indices}
use Rattle.occ_parse_rules.specs.Types.{channel_sort, sort_here, variable_sort}
use Rattle.occ_parse_types.specs.declared.asking.Place.{Place}
use Rattle.occ_parse_types.specs.declared.asking.Place.TheVariants as place

-- an element whose index is neither a numeral nor a replicator's
abbrev pub is_lost : Sorts → Item → Bool
is_lost Γ i = not (is_none i.index || index_counts Γ i.index)

-- the width of what an item stands for in a place for a variable or for a channel
abbrev pub width_in_place : Place → Option Sort → Option Width
width_in_place place.Variable s = variable_sort s
width_in_place place.Channel s = channel_sort s

abbrev pub place_width : Sorts → Place → Item → Indices → Option Width
place_width Γ p i ρ = width_in_place p (sort_here Γ ρ i)
