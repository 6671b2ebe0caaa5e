use Rattle.std.proofs.Common.{◌≡◌, drop}
use Rattle.occ_law_shape.specs.occ_law.Lists.{conditions}
use Rattle.occ_syntax.specs.Names.{some_names}
use Rattle.occ_syntax.specs.View.{cases}
use Rattle.occ_law_scope.proofs.mentions.some_condition_names.Given as goal

-- the conditions so far don't name it
abbrev pub invariant-loop-condition : goal.invariant-loop-condition
invariant-loop-condition l = some_names (conditions (cases l.choices)) l.name.0 ≡ some_names (conditions (cases (drop l.condition-index l.choices))) l.name.0
