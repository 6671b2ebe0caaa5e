use Rattle.std.proofs.Common.{◌≡◌, ◌++◌, drop}
use Rattle.std.specs.List.{filter}
use Rattle.occ_nform_table.specs.Lines.{AreNamed}
use Rattle.occ_target.specs.Inputs.{is_input_width, names_with, variables_of}
use Rattle.occ_target.proofs.inputs.variables_of.Given as goal

-- what is done and what is left to do are the whole
abbrev pub invariant-loop-width : goal.invariant-loop-width
invariant-loop-width l = record {
  named : AreNamed l.names l.params;
  variables : l.inputs ++ variables_of l.names l.params (filter (is_input_width l.params) (drop l.width-index l.widths)) ≡ variables_of l.initial.names l.params (filter (is_input_width l.params) l.widths);
  names : names_with l.names l.params (filter (is_input_width l.params) (drop l.width-index l.widths)) ≡ names_with l.initial.names l.params (filter (is_input_width l.params) l.widths);
}
