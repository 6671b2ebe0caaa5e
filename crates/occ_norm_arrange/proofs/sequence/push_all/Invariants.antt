use Rattle.std.proofs.Common.{◌≡◌, take}
use Rattle.occ_meaning.specs.Parallel.{all_of}
use Rattle.occ_syntax.specs.View.{in_procs, trees}
use Rattle.occ_norm_arrange.proofs.sequence.push_all.Given as goal

-- the parts so far are added
abbrev pub invariant-loop-part : goal.invariant-loop-part
invariant-loop-part l = trees (in_procs l.list) ≡ all_of (trees (in_procs l.initial.list)) (trees (take l.part-index l.parts))
