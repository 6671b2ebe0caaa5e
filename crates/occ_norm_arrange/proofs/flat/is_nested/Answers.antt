use Rattle.std.proofs.Common.{ap, arith, ◌∙◌}
use Rattle.occ_syntax.proofs.Counting.{weight-declaring}
use Rattle.occ_syntax.proofs.Weights.{weight}
use Rattle.occ_norm_arrange.proofs.flat.is_nested.Goals as goal

pub loop-kind-smaller : goal.loop-kind-smaller
loop-kind-smaller c = let g = ap weight c.in-Some.ensures ∙ weight-declaring _ _ _ in omega (arith, g)
