use Rattle.std.proofs.Common.{◌<◌, length, arith}
use Rattle.occ_syntax.specs.View.{trees}
use Rattle.occ_law_shape.proofs.Fronts.{trees_front}
use Rattle.occ_law_scope.proofs.Sides.{in_first_is}
use Rattle.occ_law_scope.proofs.Joined.{answered}
use Rattle.occ_law_scope.proofs.moves.is_in_first.Goals as goal

pub returns : goal.returns
returns c =
    let some : 0 < length c.args.parts.now = omega arith in
    let other : 0 < length c.args.others.now = omega arith in
    answered c.is_unused_in_all.result c.is_unused_in_all.ensures
    (in_first_is c.args.declaration (trees c.args.parts.now) (trees c.args.others.now) _ _ _ _ c.name.result.0 (trees_front c.args.parts.now c.first-item.result some c.first-item.is)
    (trees_front c.args.others.now c.other-item.result other c.other-item.is) (c.governs.ensures.0 c.if-not-governs.false) (c.same_procs.ensures.0 c.if-not-same_procs.false) c.name.ensures)
