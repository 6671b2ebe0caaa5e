use Rattle.std.proofs.Common.{arith, ap, ◌∙◌}
use Rattle.occ_syntax.proofs.Counting.{weight-declaring}
use Rattle.occ_syntax.proofs.Weights.{weight}
use Rattle.occ_derive_expose.proofs.hidden.used_below.Goals as goal

pub loop-body-smaller : goal.loop-body-smaller
loop-body-smaller c =
    let g = ap weight c.in-Some.ensures ∙ weight-declaring _ _ _ in
    omega (arith, g)
