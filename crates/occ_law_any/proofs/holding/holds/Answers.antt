use Rattle.occ_law_any.proofs.Outside.{nothing_holds}
use Rattle.occ_syntax.proofs.Rows.{refuted}
use Rattle.occ_syntax.specs.View.{tree}
use Rattle.occ_law_any.proofs.holding.holds.Goals as goal

pub returns-in_default : goal.returns-in_default
returns-in_default c =
    refuted (λ h. nothing_holds c.args.law.0 c.args.scope.now h.place (tree c.args.left.now) (tree c.args.right.now) c.law.ensures.total c.in_default.is h.sides)
