use Rattle.std.proofs.Common.{length, ◌≡◌}
use Rattle.occ_syntax.specs.View.{in_procs}
use Rattle.occ_derive_trail.proofs.lists.parts_of.Given as goal

-- the list stays as long as it was
abbrev pub invariant-loop-place : goal.invariant-loop-place
invariant-loop-place l = length (in_procs l.list) ≡ length (in_procs l.fn.list)
