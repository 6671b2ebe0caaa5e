use Rattle.std.proofs.Common.{◌≡◌, ◌+◌, ◌-◌, ◌<◌, length, arith}
use Rattle.occ_syntax.specs.Tree.{no_branch}
use Rattle.occ_syntax.specs.View.{branches, tree}
use Rattle.occ_syntax.proofs.Rows.{refuted}
use Rattle.occ_law_shape.proofs.Fronts.{branches_end, branches_front, test_of}
use Rattle.occ_law_scope.proofs.EachValue.{each_more, each_over, of_width}
use Rattle.occ_law_scope.proofs.Lists.{branches_differ, branches_end_first, branches_more, branches_none, whole}
use Rattle.occ_law_scope.proofs.Joined.{through}
use Rattle.occ_law_scope.proofs.values.Variable.has_each_value.Goals as goal

pub returns-in_default : goal.returns-in_default
returns-in_default c =
    let none : length c.loop-value.rest.now < 1 = omega arith in
    let left : c.count_of-count.result - c.loop-value.value ≡ (c.count_of-count.result - (c.loop-value.value + 1)) + 1 = omega arith in
    let v = c.args.self.now in
    refuted (λ r. branches_end_first (branches c.loop-value.rest.now) _ _ _ _ _ (branches_end c.loop-value.rest.now none) (each_more v.name.0 v.width (tree v.body.now) c.loop-value.value _ _ left)
    c.loop-value.invariant ((of_width _ v.name.0 v.width (tree v.body.now) c.count_of-count.result c.count_of-count.ensures).1 r))

pub returns-then-not-has_value : goal.returns-then-not-has_value
returns-then-not-has_value c =
    let some : 0 < length c.loop-value.rest.now = omega arith in
    let left : c.count_of-count.result - c.loop-value.value ≡ (c.count_of-count.result - (c.loop-value.value + 1)) + 1 = omega arith in
    let v = c.args.self.now in
    refuted (λ r. branches_differ (branches c.loop-value.rest.now) _ _ _ _ _ _ _ _ _ (branches_front c.loop-value.rest.now c.branch-item.result some c.branch-item.is)
    (each_more v.name.0 v.width (tree v.body.now) c.loop-value.value _ _ left) (λ k. cc (c.has_value.ensures.1 k))
    c.loop-value.invariant ((of_width _ v.name.0 v.width (tree v.body.now) c.count_of-count.result c.count_of-count.ensures).1 r))

pub loop-value-preserved : goal.loop-value-preserved
loop-value-preserved c =
    let some : 0 < length c.loop-value.rest.now = omega arith in
    let left : c.count_of-count.result - c.loop-value.value ≡ (c.count_of-count.result - (c.loop-value.value + 1)) + 1 = omega arith in
    let v = c.args.self.now in
    branches_more (branches c.loop-value.rest.now) _ _ _ _ _ _ _ _ _ (branches_front c.loop-value.rest.now c.branch-item.result some c.branch-item.is)
    (each_more v.name.0 v.width (tree v.body.now) c.loop-value.value _ _ left) (c.has_value.ensures.0 c.if-not-has_value.false) c.loop-value.invariant

pub returns : goal.returns
returns c =
    let over : c.count_of-count.result - c.loop-value.value ≡ 0 = omega arith in
    let v = c.args.self.now in
    through (whole (branches c.loop-value.rest.now) _ no_branch _ (each_over v.name.0 v.width (tree v.body.now) c.loop-value.value _ over)
    (branches_none c.loop-value.rest.now _ (test_of _ _ c.is_empty.ensures)) c.loop-value.invariant) (of_width _ v.name.0 v.width (tree v.body.now) c.count_of-count.result c.count_of-count.ensures)
