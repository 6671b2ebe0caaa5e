use Rattle.std.proofs.Common.{◌≡◌, ℕ, ◌<◌, slice_index_or}
use Rattle.std.specs.Borrow.{Bor}
use Rattle.occ_syntax.specs.declared.proc.Proc.{Proc}
use Rattle.occ_syntax.specs.View.{tree}
use Rattle.occ_law_par.proofs.order.place_of.Given as goal

-- at no place so far
abbrev pub invariant-loop-place : goal.invariant-loop-place
invariant-loop-place l = (k : ℕ) (d : Bor Proc) → k < l.place → tree (slice_index_or l.remaining k d).now ≡ tree l.part → ⊥
