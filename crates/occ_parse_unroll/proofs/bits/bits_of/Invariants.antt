use Rattle.std.proofs.Common.{◌≡◌, ◌+◌, ◌≤◌, min, drop}
use Rattle.occ_parse_unroll.specs.Bits.{bits_of_params}
use Rattle.occ_parse_unroll.proofs.bits.bits_of.Given as goal

abbrev pub invariant-loop-param : goal.invariant-loop-param
invariant-loop-param l = record {
  whole : min 25 (l.bits + bits_of_params (drop l.param-index l.params)) ≡ min 25 (bits_of_params l.params);
  few : l.bits ≤ 25;
}
