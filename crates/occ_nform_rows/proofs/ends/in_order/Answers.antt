use Rattle.std.proofs.Common.{eqb}
use Rattle.std.proofs.lemmas.List.Filters.{dedup_is}
use Rattle.occ_nform_rows.proofs.Sorting.{numbers_strict, numbers_kept}
use Rattle.occ_nform_rows.proofs.ends.in_order.Goals as goal

pub returns-clause-increasing : goal.returns-clause-increasing
returns-clause-increasing c = numbers_strict c.sorted-kept.result.items c.dedup.new.self.items c.sorted-kept.ensures.sorted (dedup_is eqb _ _ c.dedup.ensures.filtered)

pub returns-clause-members : goal.returns-clause-members
returns-clause-members c = numbers_kept c.args.numbers.items c.sorted-kept.result.items c.dedup.new.self.items c.sorted-kept.ensures.moved (dedup_is eqb _ _ c.dedup.ensures.filtered)
