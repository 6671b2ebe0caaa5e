use Rattle.std.proofs.Common.{◌≡◌, ◌-◌}
use Rattle.occ_law_seq.specs.occ_law.Lists.{all_branches}
use Rattle.occ_law_seq.specs.occ_law.Scope.{each_value}
use Rattle.occ_law_scope.specs.Values.{values_from}
use Rattle.occ_syntax.specs.View.{branches, in_alternatives, tree}
use Rattle.occ_law_right.proofs.values.Variable.each_value.Given as goal

-- what is written, and behind it what is still to be written
abbrev pub invariant-loop-value : goal.invariant-loop-value
invariant-loop-value l =
    all_branches (branches (in_alternatives l.made))
    (each_value l.self.name.0 l.self.width (tree l.self.body.now) (values_from l.self.width l.value (l.count - l.value)))
    ≡ each_value l.self.name.0 l.self.width (tree l.self.body.now) (values_from l.self.width 0 l.count)
