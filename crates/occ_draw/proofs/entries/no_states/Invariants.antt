use Rattle.std.proofs.Common.{◌≡◌, [], replicate}
use Rattle.occ_draw.proofs.entries.no_states.Given as goal

abbrev pub invariant-loop-number : goal.invariant-loop-number
invariant-loop-number l = l.groups.items ≡ replicate l._number []
