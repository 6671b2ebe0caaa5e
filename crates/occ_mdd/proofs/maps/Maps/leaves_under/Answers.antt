use Rattle.std.proofs.lemmas.List.Filters.{dedup_is}
use Rattle.occ_mdd.proofs.Collecting.{labels_are}
use Rattle.occ_mdd.proofs.Values.{known_size}
use Rattle.occ_mdd.proofs.maps.Maps.leaves_under.Goals as goal

pub collect-requires-clause-a : goal.collect-requires-clause-a
collect-requires-clause-a g c = known_size c.args.self.now c.args.a c.requires.a

pub returns : goal.returns
returns g c =
    labels_are c.args.self.now c.args.a c.args.store.now c.args.store.now c.collect.ensures.after.sets c.args.set c.requires.set
    c.new-labels.result.items c.collect.new.found.labels.items c.sort_unstable.new.self.items c.dedup.new.self.items c.collect.new.found.seen c.new-labels.ensures.items
    c.collect.ensures.after c.in_ok-collect.ensures.all
    g.L.Ord.cmp g.L.PartialEq.eq g.met.L.Ord.total g.met.L.Ord.matches_eq g.met.L.Eq.laws g.met.L.Label.exact
    c.sort_unstable.ensures.permutation c.sort_unstable.ensures.sorted (dedup_is _ _ _ c.dedup.ensures.filtered)
