use Rattle.std.proofs.Common.{◌≡◌, drop}
use Rattle.occ_syntax.specs.Names.{is_in}
use Rattle.occ_syntax.specs.View.{numbers}
use Rattle.occ_usage.specs.Faults.{first, variable_faults}
use Rattle.occ_usage.proofs.sharing.shared_variable_of.Given as goal

abbrev pub invariant-loop-name : goal.invariant-loop-name
invariant-loop-name l = first (variable_faults (is_in l.shared) l.node (numbers (drop l.name-index l.names))) ≡ first (variable_faults (is_in l.shared) l.node (numbers l.names))
