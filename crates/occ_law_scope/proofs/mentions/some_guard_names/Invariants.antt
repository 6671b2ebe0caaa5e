use Rattle.std.proofs.Common.{◌≡◌, drop}
use Rattle.occ_law_shape.specs.occ_law.Scope.{some_guard_names}
use Rattle.occ_syntax.specs.View.{branches}
use Rattle.occ_law_scope.proofs.mentions.some_guard_names.Given as goal

-- the guards so far don't name it
abbrev pub invariant-loop-guard : goal.invariant-loop-guard
invariant-loop-guard l = some_guard_names (branches l.alternatives) l.name.0 ≡ some_guard_names (branches (drop l.guard-index l.alternatives)) l.name.0
