use Rattle.occ_parse_forms.specs.Shape.{said}
use Rattle.occ_parse_types.proofs.Weights.{weight}
use Rattle.occ_parse_types.proofs.expression.+own.Given as goal

abbrev pub decreases-own : goal.decreases-own
decreases-own l = weight (said l.phrase.now)
