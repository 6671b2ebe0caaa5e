use Rattle.std.proofs.Common.{◌≡◌, take}
use Rattle.occ_syntax.specs.View.{branches, in_alternatives}
use Rattle.occ_law_shape.specs.occ_law.Lists.{all_branches}
use Rattle.occ_law_alt.proofs.made.add_copies.Given as goal

-- the copies so far
abbrev pub invariant-loop-guard : goal.invariant-loop-guard
invariant-loop-guard l = branches (in_alternatives l.made) ≡ all_branches (branches (in_alternatives l.initial.made)) (branches (take l.guard-index l.more))
