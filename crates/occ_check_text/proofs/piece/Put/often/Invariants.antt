use Rattle.std.proofs.Common.{◌≡◌, ◌++◌, replicate}
use Rattle.occ_check_text.proofs.piece.Put.often.Given as goal

abbrev pub invariant-loop-done : goal.invariant-loop-done
invariant-loop-done l = l.self.bytes.items ≡ l.fn.self.bytes.items ++ replicate l._done l.byte
