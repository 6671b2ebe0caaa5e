use Rattle.std.proofs.Common.{◌≡◌, ◌+◌, ◌++◌, drop}
use Rattle.occ_syntax.specs.Counts.{bits_of_scope}
use Rattle.occ_bits.specs.Layout.{laid_out}
use Rattle.occ_bits.proofs.layout.Layout.of.Given as goal

abbrev pub invariant-loop-name : goal.invariant-loop-name
invariant-loop-name l = record {
  so_far : laid_out 0 l.scope ≡ l.entries ++ laid_out l.first (drop l.name-index l.scope);
  count : l.first + bits_of_scope (drop l.name-index l.scope) ≡ bits_of_scope l.scope;
}
