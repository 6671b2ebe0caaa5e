use Rattle.std.proofs.Common.{take}
use Rattle.occ_syntax.specs.Tree.{no_tree}
use Rattle.occ_syntax.specs.View.{in_procs, trees}
use Rattle.occ_norm_arrange.specs.Arranged.{GoesOn}
use Rattle.occ_norm_arrange.proofs.sequence.flat.Given as goal

-- the parts so far are there
abbrev pub invariant-loop-part : goal.invariant-loop-part
invariant-loop-part l = GoesOn no_tree (trees (take l.part-index l.parts)) (trees (in_procs l.list))
