use Rattle.occ_parse_forms.specs.Shape.{said}
use Rattle.occ_parse.proofs.from_parse_unroll.Words.{words}
use Rattle.occ_parse_part.proofs.arrays.+add_phrase.Given as goal

abbrev pub decreases-add_phrase : goal.decreases-add_phrase
decreases-add_phrase l = words (said l.phrase.now)
