use Rattle.std.proofs.Common.{◌≡◌, length}
use Rattle.std.specs.List.{AllByRecursion}
use Rattle.occ_syntax.specs.View.{tree}
use Rattle.occ_script_lines.specs.Putting.{HasPart, within}
use Rattle.occ_script_lines.proofs.putting.closed.Given as goal

-- what is made so far comes into the processes that are left
abbrev pub invariant-loop-next : goal.invariant-loop-next
invariant-loop-next l = record {
  have : AllByRecursion HasPart l.round.items;
  put_in : within l.round.items (tree l.whole) ≡ within l.fn.round.items (tree l.fn.part);
}

abbrev pub decreases-loop-next : goal.decreases-loop-next
decreases-loop-next l = length l.round.items
