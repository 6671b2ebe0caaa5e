use Rattle.std.proofs.Common.{take}
use Rattle.occ_syntax.specs.View.{in_alternatives}
use Rattle.occ_norm_arrange.specs.FlatArranged.{IsBranch, Pairwise}
use Rattle.occ_norm_arrange.proofs.lists.copied_branches.Given as goal

-- those so far are copied
abbrev pub invariant-loop-branch : goal.invariant-loop-branch
invariant-loop-branch l = Pairwise IsBranch (take l.branch-index l.branches) (in_alternatives l.copies)
