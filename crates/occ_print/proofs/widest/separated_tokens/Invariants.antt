use Rattle.std.proofs.Common.{◌≡◌, eqb, take, length}
use Rattle.occ_syntax.specs.Counts.{capped}
use Rattle.occ_syntax.specs.View.{exps}
use Rattle.occ_print.specs.Symbols.{comma_behind, separated, whole_symbols}
use Rattle.occ_print.proofs.widest.separated_tokens.Given as goal

abbrev pub invariant-loop-value : goal.invariant-loop-value
invariant-loop-value l = record {
  counted : l.count ≡ capped (length (separated whole_symbols (exps (take l.value-index l.values))));
  behind : l.commas ≡ length (comma_behind (eqb l.value-index 0));
}
