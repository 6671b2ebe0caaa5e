use Rattle.std.proofs.Common.{◌≡◌, drop}
use Rattle.occ_law_scope.specs.occ_meaning.Parallel.{all_of}
use Rattle.occ_syntax.specs.Tree.{and_tree}
use Rattle.occ_syntax.specs.View.{in_procs, tree, trees}
use Rattle.occ_law_right.proofs.moves.beside.Given as goal

-- what is written, and behind it what is still to be written
abbrev pub invariant-loop-part : goal.invariant-loop-part
invariant-loop-part l = all_of (trees (in_procs l.made)) (trees (drop l.part-index l.rest)) ≡ and_tree (tree l.fn.first) (trees l.rest)
