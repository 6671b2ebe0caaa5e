use Rattle.occ_syntax.specs.View.{tree}
use Rattle.occ_syntax.proofs.Weights.{weight}
use Rattle.occ_derive_expose.proofs.hidden.used_below.Given as goal

abbrev pub decreases-loop-body : goal.decreases-loop-body
decreases-loop-body l = weight (tree l.rest)
