use Rattle.std.proofs.Common.{◌↔◌, length}
use Rattle.occ_syntax.specs.View.{branches, exp}
use Rattle.occ_law_alt.specs.Places.{CaseAt}
use Rattle.occ_law_alt.proofs.case.is_case.Given as goal

-- no such branch so far
abbrev pub invariant-loop-rest : goal.invariant-loop-rest
invariant-loop-rest l = CaseAt (exp l.condition) (branches l.rest) (branches l.second_rest) (branches l.third_rest) ↔ CaseAt (exp l.condition) (branches l.all) (branches l.with) (branches l.without)

abbrev pub decreases-loop-rest : goal.decreases-loop-rest
decreases-loop-rest l = length l.rest
