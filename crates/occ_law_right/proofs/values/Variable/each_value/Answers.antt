use Rattle.std.proofs.Common.{◌≡◌, ◌+◌, ◌-◌, arith, ap, refl, sym, ◌∙◌}
use Rattle.occ_syntax.specs.Tree.{alt}
use Rattle.occ_syntax.specs.View.{tree}
use Rattle.occ_syntax.proofs.Views.{tree-Alt}
use Rattle.occ_law_seq.specs.occ_law.Scope.{each_value}
use Rattle.occ_law_scope.proofs.EachValue.{all_values, each_more, each_over}
use Rattle.occ_law_right.proofs.Assigned.{few_values}
use Rattle.occ_law_right.proofs.Written.{branch_written, branches_written}
use Rattle.occ_law_right.proofs.values.Variable.each_value.Goals as goal

pub overflow_cast-value : goal.overflow_cast-value
overflow_cast-value c = let few = few_values c.args.self.now.width c.requires in omega (arith, few)

pub loop-value-preserved : goal.loop-value-preserved
loop-value-preserved c =
    let left : c.count_of-count.result - c.loop-value.value ≡ (c.count_of-count.result - (c.loop-value.value + 1)) + 1 = omega arith in
    let v = c.args.self.now in
    branch_written _ _ _ _ _ _ _ _ _ _ c.in_ok-push.ensures.ok refl refl c.in_ok-given.ensures (each_more v.name.0 v.width (tree v.body.now) c.loop-value.value _ _ left) c.loop-value.invariant

pub returns : goal.returns
returns c =
    let over : c.count_of-count.result - c.loop-value.value ≡ 0 = omega arith in
    let v = c.args.self.now in
    tree-Alt _ ∙ ap alt (branches_written _ _ _ (each_over v.name.0 v.width (tree v.body.now) c.loop-value.value _ over) c.loop-value.invariant
    ∙ ap (each_value v.name.0 v.width (tree v.body.now)) (sym (all_values v.width _ c.count_of-count.ensures)))
