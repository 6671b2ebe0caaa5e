use Rattle.std.proofs.Common.{◌<◌, ◌∙◌, length, arith, ap}
use Rattle.occ_syntax.specs.Tree.{and_tree, assign, seq}
use Rattle.occ_syntax.specs.View.{tree, trees}
use Rattle.occ_law_shape.proofs.Fronts.{trees_end, trees_front}
use Rattle.occ_law_par.proofs.Parting.{not_begun, nothing_begun}
use Rattle.occ_law_par.proofs.right_parts.begun.Goals as goal

pub returns-in_default : goal.returns-in_default
returns-in_default c = λ xs es ps e. c.in_default.ensures (and_tree (assign xs es) ps) e

pub returns-in_default-parts : goal.returns-in_default-parts
returns-in_default-parts c =
    let none : length c.in-Some.parts.now < 1 = omega arith in
    nothing_begun (tree c.args.part.now) (trees c.in-Some.parts.now) c.in-Some.ensures (trees_end c.in-Some.parts.now none)

pub returns-then-not-is_assignment : goal.returns-then-not-is_assignment
returns-then-not-is_assignment c =
    let some : 0 < length c.in-Some.parts.now = omega arith in
    not_begun (tree c.args.part.now) (trees c.in-Some.parts.now) (tree c.first-item.result) _ c.in-Some.ensures (trees_front c.in-Some.parts.now c.first-item.result some c.first-item.is)
    (λ xs es k. cc (c.is_assignment.ensures.1 (xs, es, k)))

pub returns : goal.returns
returns c =
    let some : 0 < length c.in-Some.parts.now = omega arith in
    let is = c.is_assignment.ensures.0 c.if-not-is_assignment.false in
    record {
      variables = is.0;
      values = is.1;
      first = is.2;
      whole = c.in-Some.ensures ∙ ap seq (trees_front c.in-Some.parts.now c.first-item.result some c.first-item.is);
    }
