use Rattle.std.proofs.Common.{◌≡◌, ◌++◌, ◌*◌, replicate}
use Rattle.occ_print.proofs.level.push_spaces.Given as goal

abbrev pub invariant-loop-level : goal.invariant-loop-level
invariant-loop-level l = l.text.items ≡ l.fn.text.items ++ replicate (2 * l._level) 32
