-- A measure of expressions: how many parts they have.
use Rattle.std.proofs.Common.{ℕ, ◌+◌}
use Rattle.occ_parse_forms.specs.Shape.{Said, item, numeral, typed, truth, negation, complement, operation}

abbrev pub weight : Said → ℕ
weight (item i) = 0
weight (numeral value) = 0
weight (typed value width) = 0
weight (truth b) = 0
weight (negation e) = weight e + 1
weight (complement e) = weight e + 1
weight (operation op left right) = weight left + weight right + 1
