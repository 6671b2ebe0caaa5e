use Rattle.std.proofs.Common.{length}
use Rattle.occ_script_lines.specs.occ_lex.Symbols.{Extends}
use Rattle.occ_script.proofs.Listed.{AreSoFar}
use Rattle.occ_script.proofs.listing.rest.Given as goal
use Rattle.occ_script_lines.specs.Left.{left}

-- the orders so far stand in front of the sections that are left
abbrev pub invariant-loop-section : goal.invariant-loop-section
invariant-loop-section l = record {
  behind : AreSoFar l.initial.names l.names (left l.initial.sections) (left l.sections) l.orders;
  extends : Extends l.initial.names l.names;
}

abbrev pub decreases-loop-section : goal.decreases-loop-section
decreases-loop-section l = length (left l.sections)
