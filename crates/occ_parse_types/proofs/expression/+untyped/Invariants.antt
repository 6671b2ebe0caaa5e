use Rattle.occ_parse_forms.specs.Shape.{said}
use Rattle.occ_parse_types.proofs.Weights.{weight}
use Rattle.occ_parse_types.proofs.expression.+untyped.Given as goal

abbrev pub decreases-untyped : goal.decreases-untyped
decreases-untyped l = weight (said l.phrase.now)
