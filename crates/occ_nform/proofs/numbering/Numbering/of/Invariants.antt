use Rattle.std.proofs.Common.{◌≤◌, ◌-◌, length}
use Rattle.occ_nform.specs.Numbering.{IsNumbering}
use Rattle.occ_nform.proofs.numbering.Numbering.of.Given as goal

abbrev pub invariant-loop-start : goal.invariant-loop-start
invariant-loop-start l = record {
  within : l.start ≤ length l.placed;
  numbered : IsNumbering l.world l.drafter.names.now l.drafter.params.now l.placed l.start l.numbering;
}

abbrev pub decreases-loop-start : goal.decreases-loop-start
decreases-loop-start l = length l.placed - l.start
