use Rattle.std.proofs.Common.{◌≡◌, ◌<◌, ◌+◌, ℕ, length, get_or}
use Rattle.occ_nform.specs.declared.level.Draft.{Draft}
use Rattle.occ_nform.specs.Numbering.{placed_at, IsDraft}
use Rattle.occ_nform.proofs.drafter.Drafter.drafts.Given as goal

abbrev pub invariant-loop-place : goal.invariant-loop-place
invariant-loop-place l = record {
  count : l.start + length l.drafts.items ≡ l.place;
  each : (k : ℕ) (d : Draft) → k < length l.drafts.items → IsDraft l.world l.self.names.now l.self.params.now l.numbers (placed_at l.placed (l.start + k)).node (get_or l.drafts.items k d);
  level : (k : ℕ) → k < length l.drafts.items → (placed_at l.placed (l.start + k)).height ≡ (placed_at l.placed l.start).height;
}
