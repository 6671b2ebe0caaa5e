use Rattle.std.proofs.Common.{◌≡◌, drop}
use Rattle.occ_syntax.specs.Scopes.{values}
use Rattle.occ_syntax.proofs.eval.held.Given as goal

abbrev pub invariant-loop-variable : goal.invariant-loop-variable
invariant-loop-variable l = values l.state l.name.0 ≡ values (drop l.variable-index l.state) l.name.0
