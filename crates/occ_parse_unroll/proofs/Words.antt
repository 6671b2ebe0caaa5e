-- How long an expression is.
use Rattle.std.proofs.Common.{ℕ, ◌+◌}
use Rattle.occ_parse_forms.specs.Shape.{Said}
use Rattle.occ_parse_forms.specs.Shape as line

abbrev pub words : Said → ℕ
words (line.item i) = 1
words (line.numeral value) = 1
words (line.typed value width) = 1
words (line.truth b) = 1
words (line.negation e) = 1 + words e
words (line.complement e) = 1 + words e
words (line.operation op left right) = 1 + words left + words right
