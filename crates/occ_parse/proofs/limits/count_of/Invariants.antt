use Rattle.std.proofs.Common.{◌≡◌, ◌+◌, ◌≤◌, false, drop}
use Rattle.occ_parse.specs.Limits.{counted_from}
use Rattle.occ_parse.proofs.limits.count_of.Given as goal

-- what is counted, and what the symbols that are left count, is what all count
abbrev pub invariant-loop-symbol : goal.invariant-loop-symbol
invariant-loop-symbol l = (l.count + counted_from l.opened (drop l.symbol-index l.symbols) ≡ counted_from false l.symbols) × (l.count ≤ l.symbol-index)
