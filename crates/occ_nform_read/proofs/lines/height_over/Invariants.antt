use Rattle.std.proofs.Common.{◌≡◌, ◌+◌, ◌≤◌, drop, length, max}
use Rattle.occ_nform_table.specs.Judging.{height_over}
use Rattle.occ_nform_read.proofs.lines.height_over.Given as goal

abbrev pub invariant-loop-offer : goal.invariant-loop-offer
invariant-loop-offer l = record {
  same : max l.height (height_over l.heights (drop l.offer-index l.offers)) ≡ height_over l.heights l.offers;
  low : l.height ≤ length l.heights + 1;
}
