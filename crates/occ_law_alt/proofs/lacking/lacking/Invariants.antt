use Rattle.std.proofs.Common.{◌↔◌, length}
use Rattle.occ_syntax.specs.Tree.{Exp, Tree, Waiting}
use Rattle.occ_syntax.specs.View.{branches}
use Rattle.occ_law_alt.specs.Lacking.{Lacks}
use Rattle.occ_law_alt.proofs.lacking.lacking.Given as goal

-- what is lacked from here on is what is lacked
abbrev pub invariant-loop-rest : goal.invariant-loop-rest
invariant-loop-rest l = (b : Exp) (w : Waiting) (p : Tree) → Lacks b w p (branches l.rest) (branches l.other_rest) ↔ Lacks b w p (branches l.all) (branches l.others)

abbrev pub decreases-loop-rest : goal.decreases-loop-rest
decreases-loop-rest l = length l.rest
