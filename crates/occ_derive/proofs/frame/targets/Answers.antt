use Rattle.std.proofs.Common.{arith, ap, ◌∙◌}
use Rattle.occ_syntax.proofs.Counting.{weight-declaring}
use Rattle.occ_syntax.proofs.Weights.{weight}
use Rattle.occ_derive.proofs.frame.targets.Goals as goal

pub loop-name-smaller : goal.loop-name-smaller
loop-name-smaller c =
    let g = ap weight c.in-Some.ensures ∙ weight-declaring _ _ _ in
    omega (arith, g)

pub loop-name-smaller-in_ok-push : goal.loop-name-smaller-in_ok-push
loop-name-smaller-in_ok-push c =
    let g = ap weight c.in-Some.ensures ∙ weight-declaring _ _ _ in
    omega (arith, g)
