use Rattle.std.proofs.Common.{◌≡◌}
use Rattle.occ_norm_alt.specs.Inputs.{placed}
use Rattle.occ_norm_alt.proofs.rows.with_input.Given as goal

abbrev pub invariant-loop-digit : goal.invariant-loop-digit
invariant-loop-digit l = l.made ≡ placed l.inputs.first l.digit l.number l.state
