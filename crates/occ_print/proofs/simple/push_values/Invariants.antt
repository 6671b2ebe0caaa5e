use Rattle.std.proofs.Common.{◌≡◌, ◌++◌, eqb, take}
use Rattle.occ_syntax.specs.View.{exps}
use Rattle.occ_print.specs.Symbols.{separated, whole_symbols}
use Rattle.occ_print.proofs.simple.push_values.Given as goal

abbrev pub invariant-loop-value : goal.invariant-loop-value
invariant-loop-value l = record {
  listed : l.symbols ≡ l.fn.symbols ++ separated whole_symbols (exps (take l.value-index l.values));
  at_first : l.first ≡ eqb l.value-index 0;
}
