use Rattle.std.proofs.Common.{length, drop, ◌+◌, ◌-◌, ◌≡◌, ◌≤◌}
use Rattle.occ_lex.specs.Tokens.{tokens}
use Rattle.occ_lex.proofs.TokenLemmas.{with_front}
use Rattle.occ_lex.proofs.row.tokens.Given as goal

abbrev pub invariant-loop-at : goal.invariant-loop-at
invariant-loop-at l = record {
  within : l.at ≤ length l.code;
  so_far : with_front l.found (tokens (l.first + l.at) 0 (drop l.at l.code)) ≡ tokens l.first 0 l.code;
}

abbrev pub decreases-loop-at : goal.decreases-loop-at
decreases-loop-at l = length l.code - l.at
