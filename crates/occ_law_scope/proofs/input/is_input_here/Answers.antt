use Rattle.std.proofs.Common.{◌≡◌, ◌==◌, false, sym, ap}
use Rattle.occ_syntax.specs.View.{tree, waiting}
use Rattle.occ_law_scope.proofs.Placing.{here_is}
use Rattle.occ_law_scope.proofs.Joined.{known_first, through}
use Rattle.occ_law_scope.proofs.input.is_input_here.Goals as goal

pub returns-then-is_input : goal.returns-then-is_input
returns-then-is_input c =
    let differ : (c.in-Get.var.0 == c.args.name.0) ≡ false = cc in
    through (here_is c.args.name.0 c.in-Get.chan.0 c.in-Get.var.0 (waiting c.args.branch.now.0.wait) (waiting c.args.other.now.0.wait) (tree c.args.branch.now.1) (tree c.args.other.now.1) _
    (ap waiting (sym c.in-Get.is)) differ (c.is_input.ensures.0 c.if-is_input.true) c.is_passed_on.ensures) (known_first (c.same_expr.ensures.0 c.if-not-same_expr.false))
