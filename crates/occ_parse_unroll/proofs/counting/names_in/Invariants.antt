use Rattle.std.proofs.Common.{◌≡◌, ◌+◌, ◌≤◌, min, drop}
use Rattle.occ_parse_unroll.specs.Sizes.{names_in}
use Rattle.occ_parse_unroll.proofs.counting.names_in.Given as goal

abbrev pub invariant-loop-d : goal.invariant-loop-d
invariant-loop-d l = record {
  whole : min 4097 (l.count + names_in (drop l.d-index l.declared)) ≡ min 4097 (names_in l.declared);
  few : l.count ≤ 4097;
}
