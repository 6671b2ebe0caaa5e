use Rattle.std.proofs.Common.{◌≡◌, [], drop, length}
use Rattle.occ_target.specs.Sizes.{sizes_from}
use Rattle.occ_target.proofs.count.row_sizes.Given as goal

abbrev pub invariant-loop-row : goal.invariant-loop-row
invariant-loop-row l = record {
  whole : sizes_from l.sizes (drop l.row-index l.rows) ≡ sizes_from [] l.rows;
  count : length l.sizes ≡ l.row-index;
}
