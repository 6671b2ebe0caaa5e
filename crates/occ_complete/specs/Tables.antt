-- Headers of normal tables.
use Rattle.occ_complete_states.specs.occ_nform_table.Normal.{Parts}
use Rattle.occ_complete_states.specs.occ_target.Inputs.{input_variables}
use Rattle.occ_complete_states.specs.occ_target_laws.Shapes.{Header}

-- what the parts of the normal program of a table have in common
abbrev pub header_of : Parts → Header
header_of t = record { params = t.params; inputs = input_variables t.names t.params }
