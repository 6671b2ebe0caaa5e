use Rattle.std.proofs.Common.{◌≡◌}
use Rattle.occ_syntax.specs.Declarations.{declaring_all}
use Rattle.occ_syntax.specs.View.{tree}
use Rattle.occ_syntax.proofs.Weights.{weight}
use Rattle.occ_norm_arrange.proofs.order.arranged.Given as goal

-- the declarations so far, round the rest, are the whole
abbrev pub invariant-loop-name : goal.invariant-loop-name
invariant-loop-name l = declaring_all l.declarations (tree l.body) ≡ tree l.part

abbrev pub decreases-loop-name : goal.decreases-loop-name
decreases-loop-name l = weight (tree l.body)
