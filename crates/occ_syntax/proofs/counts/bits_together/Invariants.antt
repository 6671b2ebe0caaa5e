use Rattle.std.proofs.Common.{◌≡◌, ◌+◌, ◌^◌, ◌<◌, drop}
use Rattle.occ_syntax.specs.Counts.{capped, bits_of_scope}
use Rattle.occ_syntax.proofs.counts.bits_together.Given as goal

-- the bits so far and those of what is left are the whole
abbrev pub invariant-loop-kind : goal.invariant-loop-kind
invariant-loop-kind l = record {
  whole : capped (l.bits + bits_of_scope (drop l.kind-index l.scope)) ≡ capped (bits_of_scope l.scope);
  fits : l.bits < 2 ^ 64;
}
