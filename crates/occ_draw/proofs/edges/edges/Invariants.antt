use Rattle.std.proofs.Common.{◌≡◌, take}
use Rattle.occ_draw.specs.Adding.{ways_of}
use Rattle.occ_draw.specs.Edges.{edges_of}
use Rattle.occ_draw.proofs.edges.edges.Given as goal

-- the edges so far are those of the offers so far
abbrev pub invariant-loop-offer : goal.invariant-loop-offer
invariant-loop-offer l = record {
  ways : l.found.ways.keys ≡ ways_of l.found.edges.items;
  edges : l.found.edges.items ≡ edges_of (take l.offer-index l.offers);
}
