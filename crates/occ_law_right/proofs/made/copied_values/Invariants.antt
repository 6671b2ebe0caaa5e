use Rattle.std.proofs.Common.{◌≡◌, take}
use Rattle.occ_syntax.specs.View.{exps}
use Rattle.occ_law_right.proofs.made.copied_values.Given as goal

abbrev pub invariant-loop-value : goal.invariant-loop-value
invariant-loop-value l = exps l.made ≡ exps (take l.value-index l.values)
