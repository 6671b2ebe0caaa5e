use Rattle.std.proofs.Common.{◌≡◌, ◌≤◌, ◌++◌, drop}
use Rattle.occ_syntax.specs.Counts.{bits_of_scope}
use Rattle.occ_nform_rows.specs.Ends.{byte_state_at}
use Rattle.occ_nform_rows.proofs.lister.Lister.state_at.Given as goal

abbrev pub invariant-loop-name : goal.invariant-loop-name
invariant-loop-name l = record {
  left : l.left ≡ bits_of_scope (drop l.name-index l.self.params.now);
  few : l.left ≤ 16;
  so_far : byte_state_at l.self.params.now l.fn.place ≡ l.state ++ byte_state_at (drop l.name-index l.self.params.now) l.rest;
}
