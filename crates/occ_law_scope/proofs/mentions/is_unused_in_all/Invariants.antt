use Rattle.std.proofs.Common.{◌≡◌, drop}
use Rattle.occ_syntax.specs.Names.{free_in_some}
use Rattle.occ_syntax.specs.View.{trees}
use Rattle.occ_law_scope.proofs.mentions.is_unused_in_all.Given as goal

-- the name isn't free in the processes so far
abbrev pub invariant-loop-part : goal.invariant-loop-part
invariant-loop-part l = free_in_some (trees l.parts) l.name.0 ≡ free_in_some (trees (drop l.part-index l.parts)) l.name.0
