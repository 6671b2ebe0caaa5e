use Rattle.occ_parse_forms.specs.Shape.{said}
use Rattle.occ_parse_types.proofs.Weights.{weight}
use Rattle.occ_parse_types.proofs.expression.+clashes.Given as goal

abbrev pub decreases-clashes : goal.decreases-clashes
decreases-clashes l = weight (said l.phrase.now)
