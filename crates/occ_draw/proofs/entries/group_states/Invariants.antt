use Rattle.std.proofs.Common.{take}
use Rattle.occ_draw.specs.Grouping.{AreGroups}
use Rattle.occ_draw.proofs.entries.group_states.Given as goal

-- the groups so far are those of the states so far
abbrev pub invariant-loop-place : goal.invariant-loop-place
invariant-loop-place l = AreGroups l.params (take l.place l.states) l.count l.groups.items
