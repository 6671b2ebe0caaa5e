use Rattle.std.proofs.Common.{◌≡◌, ◌+◌, ◌^◌, ◌<◌, drop}
use Rattle.occ_syntax.specs.Counts.{capped}
use Rattle.occ_syntax.specs.View.{exps}
use Rattle.occ_bits.specs.Named.{bits_named}
use Rattle.occ_bits.proofs.named.named_bits.Given as goal

abbrev pub invariant-loop-name : goal.invariant-loop-name
invariant-loop-name l = record {
  whole : capped (l.bits + bits_named (drop l.name-index l.scope) (exps l.exprs)) ≡ capped (bits_named l.scope (exps l.exprs));
  fits : l.bits < 2 ^ 64;
}
