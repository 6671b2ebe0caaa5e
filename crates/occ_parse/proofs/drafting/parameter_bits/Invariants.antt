use Rattle.std.proofs.Common.{◌≡◌, ◌+◌, ◌≤◌, min, drop}
use Rattle.occ_parse_unroll.specs.Bits.{bits_of_params}
use Rattle.occ_parse.proofs.drafting.parameter_bits.Given as goal

-- the bits so far with those of the parameters that are left are those of all, up to the limit
abbrev pub invariant-loop-param : goal.invariant-loop-param
invariant-loop-param l = (min 17 (l.bits + bits_of_params (drop l.param-index l.params)) ≡ min 17 (bits_of_params l.params)) × (l.bits ≤ 17)
