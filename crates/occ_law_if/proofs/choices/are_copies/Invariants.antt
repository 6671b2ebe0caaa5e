use Rattle.std.proofs.Common.{◌≡◌, ◌↔◌, length}
use Rattle.occ_syntax.specs.View.{cases, tree}
use Rattle.occ_law_shape.specs.occ_law.Choice.{copies}
use Rattle.occ_law_shape.specs.occ_law.Lists.{conditions}
use Rattle.occ_law_if.proofs.choices.are_copies.Given as goal

-- copies so far
abbrev pub invariant-loop-rest : goal.invariant-loop-rest
invariant-loop-rest l = (cases l.rest ≡ copies (conditions (cases l.rest)) (tree l.part)) ↔ (cases l.choices ≡ copies (conditions (cases l.choices)) (tree l.part))

abbrev pub decreases-loop-rest : goal.decreases-loop-rest
decreases-loop-rest l = length l.rest
