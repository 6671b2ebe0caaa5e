use Rattle.std.proofs.Common.{◌≡◌, ◌++◌, eqb, take}
use Rattle.occ_syntax.specs.occ_base.declared.names.Name.{Name}
use Rattle.occ_syntax.specs.declared.scope.Kind.{Kind}
use Rattle.occ_print.specs.Symbols.{named_symbols, separated}
use Rattle.occ_print.proofs.simple.push_params.Given as goal

abbrev pub invariant-loop-name : goal.invariant-loop-name
invariant-loop-name l = record {
  listed : l.symbols ≡ l.fn.symbols ++ separated (λ (p : Name × Kind). named_symbols p.0.0 p.1) (take l.name-index l.params);
  at_first : l.first ≡ eqb l.name-index 0;
}
