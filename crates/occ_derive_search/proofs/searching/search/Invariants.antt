use Rattle.std.proofs.Common.{◌-◌}
use Rattle.occ_derive_search.proofs.Ranking.{all_rows}
use Rattle.occ_derive_search.specs.Rows.{rank}
use Rattle.occ_derive_search.proofs.searching.search.Given as goal

abbrev pub decreases-loop-counter : goal.decreases-loop-counter
decreases-loop-counter l = all_rows - rank l.counter.digits.items
