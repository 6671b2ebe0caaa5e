use Rattle.std.proofs.Common.{◌≡◌, ◌<◌, ℕ, Some, slice_get}
use Rattle.occ_law.specs.Table.{law_names}
use Rattle.occ_law.proofs.table.find_among.Given as goal

-- no name so far is this one
abbrev pub invariant-loop-place : goal.invariant-loop-place
invariant-loop-place l = (k : ℕ) → k < l.place → slice_get law_names k ≡ Some l.name → ⊥
