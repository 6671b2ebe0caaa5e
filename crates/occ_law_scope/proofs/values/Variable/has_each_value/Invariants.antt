use Rattle.std.proofs.Common.{◌≡◌, ◌↔◌, ◌-◌}
use Rattle.occ_law_shape.specs.occ_law.Scope.{each_value}
use Rattle.occ_law_scope.specs.Values.{values_from}
use Rattle.occ_syntax.specs.View.{branches, tree}
use Rattle.occ_law_scope.proofs.values.Variable.has_each_value.Given as goal

-- the branches so far have their values
abbrev pub invariant-loop-value : goal.invariant-loop-value
invariant-loop-value l =
    (branches l.rest ≡ each_value l.self.name.0 l.self.width (tree l.self.body.now) (values_from l.self.width l.value (l.count - l.value)))
    ↔ (branches l.alternatives ≡ each_value l.self.name.0 l.self.width (tree l.self.body.now) (values_from l.self.width 0 l.count))
