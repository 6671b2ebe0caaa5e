use Rattle.std.proofs.Common.{◌≡◌, ◌++◌, ◌∷◌, [], eqb, take}
use Rattle.occ_syntax.specs.View.{numbers}
use Rattle.occ_print.specs.Symbols.{name_symbol, separated}
use Rattle.occ_print.proofs.simple.push_names.Given as goal

abbrev pub invariant-loop-name : goal.invariant-loop-name
invariant-loop-name l = record {
  listed : l.symbols ≡ l.fn.symbols ++ separated (λ x. name_symbol x ∷ []) (numbers (take l.name-index l.names));
  at_first : l.first ≡ eqb l.name-index 0;
}
