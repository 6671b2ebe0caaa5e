use Rattle.std.proofs.Common.{◌≡◌, ◌<◌, ℕ, take, if◌then◌else◌}
use Rattle.std.specs.Int.{bit_at}
use Rattle.occ_syntax.specs.View.{numbers}
use Rattle.occ_norm_par.specs.Spans.{covers}
use Rattle.occ_norm_par.proofs.parallel.bits_of_names.Given as goal

abbrev pub invariant-loop-entry : goal.invariant-loop-entry
invariant-loop-entry l = (k : ℕ) → k < 64 → bit_at l.bits k ≡ (if covers (take l.entry-index l.entries) (numbers l.names) k then 1 else 0)
