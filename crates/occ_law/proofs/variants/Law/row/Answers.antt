use Rattle.std.proofs.Common.{refl}
use Rattle.occ_law.specs.Numbers.{is_row}
use Rattle.occ_law.proofs.variants.Law.row.Goals as goal

pub row_at-requires-clause-kept : goal.row_at-requires-clause-kept
unfolding is_row
row_at-requires-clause-kept c = refl
