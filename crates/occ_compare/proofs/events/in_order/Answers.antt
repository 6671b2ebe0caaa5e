use Rattle.std.proofs.Common.{rules}
use Rattle.std.proofs.lemmas.Fn.{always_returns_same}
use Rattle.std.proofs.lemmas.List.Filters.{dedup_is}
use Rattle.std.proofs.lemmas.List.MinMax.{ranks_by}
use Rattle.std.specs.Ordering.{is_lt}
use Rattle.occ_syntax.specs.occ_base.declared.event.Event.{Event}
use Rattle.occ_syntax.specs.occ_base.contracts.event.EventPartialEq.TheImpl.{ghosts as event_eq}
use Rattle.occ_compare.specs.Orders.{print_cmp}
use Rattle.occ_compare.proofs.Printing.{print_total, ordered}
use Rattle.occ_compare.proofs.events.in_order.Goals as goal

pub returns : goal.returns
returns c = ordered c.args.params.now c.args.events.items c.sort_unstable_by.new.self.items c.dedup.new.self.items c.sort_unstable_by.ensures.permutation
    (c.sort_unstable_by.ensures.sorted (λ e f. is_lt (print_cmp c.args.params.now e f)) (ranks_by (print_total c.args.params.now) (λ (e : Event). e)) (always_returns_same _ _ _ (λ a r f' k. (search rules, search rules))))
    (dedup_is event_eq.eq _ _ c.dedup.ensures.filtered)
