use Rattle.std.proofs.Common.{◌≡◌, ◌+◌, ℕ, drop, None}
use Rattle.occ_syntax.specs.Counts.{capped}
use Rattle.occ_target.specs.Sizes.{events_size}
use Rattle.occ_target.proofs.count.events_size.Given as goal

-- what is counted and what is left to count are the whole
abbrev pub invariant-loop-place : goal.invariant-loop-place
invariant-loop-place l = (n : ℕ) × (l.count ≡ capped n) × (n + events_size l.sizes l.before (drop l.place l.offers) ≡ events_size l.sizes None l.offers)
