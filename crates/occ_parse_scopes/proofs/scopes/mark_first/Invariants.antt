use Rattle.std.proofs.Common.{◌≡◌, ℕ, ◌<◌, ◌||◌, false, nat_lt, get_or, length}
use Rattle.occ_parse_scopes.proofs.scopes.mark_first.Given as goal

-- those before are marked
abbrev pub invariant-loop-k : goal.invariant-loop-k
invariant-loop-k l = (length l.table ≡ 256) × ((j : ℕ) → j < 256 → get_or l.table j false ≡ (get_or l.initial.table j false || nat_lt j l.k))
