-- The bits of parameters.
use Rattle.std.proofs.Common.{◌≡◌, List, [], arith}
use Rattle.occ_parse_rules.specs.occ_parse_forms.declared.form.Param.{Param}
use Rattle.occ_parse_rules.specs.Limits.{bits_in_scope}
use Rattle.occ_parse_rules.specs.Programs.{param_scope}
use Rattle.occ_parse_unroll.specs.Bits.{bits_of_params}
use Rattle.occ_parse_unroll.proofs.Wide.{bits-params}

-- those that are in scope below the header are those of the parameters
pub bits_below_header : (ps : List Param) → bits_in_scope (param_scope ps) ≡ bits_of_params ps
bits_below_header ps = omega (arith, bits-params [] ps)
