use Rattle.std.proofs.Common.{◌≡◌, ◌+◌, ◌-◌, ◌*◌, length}
use Rattle.occ_parse_forms.specs.Reading.{further, operand_within}
use Rattle.occ_parse_forms.specs.Shape.{said}
use Rattle.occ_parse_forms.proofs.expression.+reading.Given as goal

abbrev pub decreases-operand : goal.decreases-operand
decreases-operand l = 4 * l.depth

abbrev pub decreases-further : goal.decreases-further
decreases-further l = 4 * l.depth + 1

abbrev pub decreases-operated : goal.decreases-operated
decreases-operated l = 4 * l.depth + 2

abbrev pub decreases-expression_first : goal.decreases-expression_first
decreases-expression_first l = 4 * l.depth + 3

abbrev pub invariant-further-along : goal.invariant-further-along
invariant-further-along l =
    further (operand_within l.depth) l.op (length l.symbols - l.counter) (said l.left) l.rest ≡ further (operand_within l.depth) l.op (length l.symbols) (said l.fn.left) l.symbols
