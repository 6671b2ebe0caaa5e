use Rattle.std.proofs.Common.{List, rules}
use Rattle.std.proofs.lemmas.Fn.{always_returns_same}
use Rattle.std.proofs.lemmas.List.MinMax.{ranks_by}
use Rattle.std.specs.Ordering.{is_lt}
use Rattle.occ_syntax.specs.occ_base.declared.event.Event.{Event}
use Rattle.occ_compare.specs.Orders.{list_cmp}
use Rattle.occ_nform_rows.proofs.Listing.{list_total}
use Rattle.occ_nform_rows.proofs.sets.sorted.Goals as goal

pub returns : goal.returns
returns c = record {
  moved = c.sort_unstable_by.ensures.permutation;
  sorted = c.sort_unstable_by.ensures.sorted (λ a b. is_lt (list_cmp c.args.params.now a b)) (ranks_by (list_total c.args.params.now) (λ (l : List Event). l)) (always_returns_same _ _ _ (λ a r f' k. (search rules, search rules)));
}
