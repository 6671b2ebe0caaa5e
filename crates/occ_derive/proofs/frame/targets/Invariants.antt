use Rattle.occ_syntax.specs.View.{tree}
use Rattle.occ_syntax.proofs.Weights.{weight}
use Rattle.occ_derive.proofs.frame.targets.Given as goal

abbrev pub decreases-loop-name : goal.decreases-loop-name
decreases-loop-name l = weight (tree l.rest)
