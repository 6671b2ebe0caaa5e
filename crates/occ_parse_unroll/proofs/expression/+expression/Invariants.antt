use Rattle.occ_parse_forms.specs.Shape.{said}
use Rattle.occ_parse_unroll.proofs.Words.{words}
use Rattle.occ_parse_unroll.proofs.expression.+expression.Given as goal

abbrev pub decreases-expression : goal.decreases-expression
decreases-expression g l = words (said l.phrase.now)
