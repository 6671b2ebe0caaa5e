use Rattle.std.proofs.Common.{take}
use Rattle.occ_syntax.specs.View.{in_procs}
use Rattle.occ_norm_arrange.specs.FlatArranged.{IsPart, Pairwise}
use Rattle.occ_norm_arrange.proofs.lists.copied_parts.Given as goal

-- those so far are copied
abbrev pub invariant-loop-part : goal.invariant-loop-part
invariant-loop-part l = Pairwise IsPart (take l.part-index l.parts) (in_procs l.copies)
