use Rattle.std.proofs.Common.{◌≡◌, ◌≤◌, ◌+◌, ◌*◌, ◌^◌, drop}
use Rattle.occ_compare.specs.Places.{number_in}
use Rattle.occ_syntax.specs.Counts.{bits_of_scope}
use Rattle.occ_nform_rows.proofs.lister.Lister.place.Given as goal

abbrev pub invariant-loop-kind : goal.invariant-loop-kind
invariant-loop-kind l = record {
  few : bits_of_scope (drop l.kind-index l.self.params.now) ≤ 16;
  so_far : l.place * 2 ^ bits_of_scope (drop l.kind-index l.self.params.now) + number_in (drop l.kind-index l.self.params.now) l.rest ≡ number_in l.self.params.now l.fn.assignment;
}
