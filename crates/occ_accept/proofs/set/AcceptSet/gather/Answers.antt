use Rattle.std.proofs.lemmas.List.Filters.{dedup_is}
use Rattle.occ_base.specs.contracts.event.EventPartialEq.TheImpl.{ghosts as event_eq}
use Rattle.occ_accept.proofs.Sets.{union_strict, gathered}
use Rattle.occ_accept.proofs.set.AcceptSet.gather.Goals as goal

pub invariant_of-result : goal.invariant_of-result
invariant_of-result c = union_strict c.sort_unstable.new.self.items c.dedup.new.self.items c.sort_unstable.ensures.sorted (dedup_is event_eq.eq _ _ c.dedup.ensures.filtered)

pub returns : goal.returns
returns c = gathered c.args.events.items c.sort_unstable.new.self.items c.dedup.new.self.items c.sort_unstable.ensures.permutation (dedup_is event_eq.eq _ _ c.dedup.ensures.filtered)
