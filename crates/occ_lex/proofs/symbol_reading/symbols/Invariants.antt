use Rattle.std.proofs.Common.{◌≡◌, ◌++◌, drop}
use Rattle.occ_lex.specs.Symbols.{Extends, symbols_of, with_names}
use Rattle.occ_lex.proofs.symbol_reading.symbols.Given as goal

-- the symbols so far, and those of the tokens that are left, are those of all
abbrev pub invariant-loop-token : goal.invariant-loop-token
invariant-loop-token l = record {
  symbols : l.symbols ++ symbols_of l.text l.names (drop l.token-index l.tokens) ≡ symbols_of l.text l.initial.names l.tokens;
  table : with_names l.text l.names (drop l.token-index l.tokens) ≡ with_names l.text l.initial.names l.tokens;
  extends : Extends l.initial.names l.names;
}
