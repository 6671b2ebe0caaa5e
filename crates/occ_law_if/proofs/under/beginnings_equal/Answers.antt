use Rattle.std.proofs.Common.{◌<◌, length, arith}
use Rattle.std.proofs.lemmas.Result.{IfOk-weaker}
use Rattle.occ_syntax.specs.View.{trees}
use Rattle.occ_syntax.proofs.Rows.{refuted}
use Rattle.occ_law_shape.proofs.Fronts.{trees_end, trees_front}
use Rattle.occ_law_if.proofs.Processes.{beginnings_differ, beginnings_test, begins_with_none, first_part_kept, other_begins_with_none}
use Rattle.occ_law_if.proofs.under.beginnings_equal.Goals as goal

pub returns-in_default : goal.returns-in_default
returns-in_default g c =
    let none : length c.args.parts.now < 1 = omega arith in
    refuted (begins_with_none (g.E.Equality.equals c.args.equality.now) (trees c.args.parts.now) (trees c.args.others.now) (trees_end c.args.parts.now none))

pub returns-in_default-others : goal.returns-in_default-others
returns-in_default-others g c =
    let none : length c.args.others.now < 1 = omega arith in
    refuted (other_begins_with_none (g.E.Equality.equals c.args.equality.now) (trees c.args.parts.now) (trees c.args.others.now) (trees_end c.args.others.now none))

pub returns-then-not-same_procs : goal.returns-then-not-same_procs
returns-then-not-same_procs g c =
    let some : 0 < length c.args.parts.now = omega arith in
    let other : 0 < length c.args.others.now = omega arith in
    refuted (beginnings_differ (g.E.Equality.equals c.args.equality.now) _ _ _ _ _ _ (trees_front c.args.parts.now c.first-item.result some c.first-item.is)
    (trees_front c.args.others.now c.other-item.result other c.other-item.is) (λ e. cc (c.same_procs.ensures.1 e)))

pub assignments_equal-requires-clause-left : goal.assignments_equal-requires-clause-left
assignments_equal-requires-clause-left g c =
    let some : 0 < length c.args.parts.now = omega arith in
    first_part_kept (g.E.Equality.environment c.args.equality.now) _ _ _ (trees_front c.args.parts.now c.first-item.result some c.first-item.is) c.requires.left

pub assignments_equal-requires-clause-right : goal.assignments_equal-requires-clause-right
assignments_equal-requires-clause-right g c =
    let other : 0 < length c.args.others.now = omega arith in
    first_part_kept (g.E.Equality.environment c.args.equality.now) _ _ _ (trees_front c.args.others.now c.other-item.result other c.other-item.is) c.requires.right

pub returns : goal.returns
returns g c =
    let some : 0 < length c.args.parts.now = omega arith in
    let other : 0 < length c.args.others.now = omega arith in
    IfOk-weaker _ _ _ (λ answer. beginnings_test (g.E.Equality.equals c.args.equality.now) _ _ _ _ _ _ answer
    (trees_front c.args.parts.now c.first-item.result some c.first-item.is) (trees_front c.args.others.now c.other-item.result other c.other-item.is)
    (c.same_procs.ensures.0 c.if-not-same_procs.false)) c.assignments_equal.ensures
