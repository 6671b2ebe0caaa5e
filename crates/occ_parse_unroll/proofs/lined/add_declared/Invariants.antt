use Rattle.std.proofs.Common.{◌≡◌, ◌++◌, drop, length, replicate}
use Rattle.std.specs.List.{flat_map}
use Rattle.occ_parse_rules.specs.Places.{places}
use Rattle.occ_parse_unroll.proofs.lined.add_declared.Given as goal

abbrev pub invariant-loop-d : goal.invariant-loop-d
invariant-loop-d l = l.lines ++ replicate (length (flat_map places (drop l.d-index l.declared))) l.line ≡ l.fn.lines ++ replicate (length (flat_map places l.declared)) l.line
