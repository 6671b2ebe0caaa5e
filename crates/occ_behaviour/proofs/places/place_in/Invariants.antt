use Rattle.std.proofs.Common.{◌≡◌, ◌+◌, drop}
use Rattle.occ_behaviour.specs.Places.{place_in}
use Rattle.occ_behaviour.proofs.places.place_in.Given as goal

abbrev pub invariant-loop-name : goal.invariant-loop-name
invariant-loop-name l = record {
  place : l.place ≡ l.name-index;
  so_far : place_in l.params l.chan ≡ l.place + place_in (drop l.name-index l.params) l.chan;
}
