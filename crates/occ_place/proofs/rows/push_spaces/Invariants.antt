use Rattle.std.proofs.Common.{◌≡◌, ◌++◌, replicate}
use Rattle.occ_place.proofs.rows.push_spaces.Given as goal

abbrev pub invariant-loop-space : goal.invariant-loop-space
invariant-loop-space l = l.text.items ≡ l.fn.text.items ++ replicate l._space 32
