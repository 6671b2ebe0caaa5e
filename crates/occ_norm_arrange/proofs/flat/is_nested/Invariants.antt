use Rattle.occ_syntax.specs.View.{tree}
use Rattle.occ_syntax.proofs.Weights.{weight}
use Rattle.occ_norm_arrange.proofs.flat.is_nested.Given as goal

abbrev pub decreases-loop-kind : goal.decreases-loop-kind
decreases-loop-kind l = weight (tree l.body)
