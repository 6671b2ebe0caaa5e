use Rattle.std.proofs.Common.{◌≡◌, [], drop, length, map}
use Rattle.occ_syntax.specs.View.{in_procs, tree}
use Rattle.occ_target.specs.Program.{processes}
use Rattle.occ_target.proofs.program.processes.Given as goal

abbrev pub invariant-loop-row : goal.invariant-loop-row
invariant-loop-row l = record {
  whole : processes l.params l.inputs (map tree (in_procs l.made)) (drop l.row-index l.rows) ≡ processes l.params l.inputs [] l.rows;
  count : length (in_procs l.made) ≡ l.row-index;
}
