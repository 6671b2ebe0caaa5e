use Rattle.std.proofs.Common.{◌≡◌, take}
use Rattle.occ_syntax.specs.View.{numbers}
use Rattle.occ_law_right.proofs.made.copied_names.Given as goal

abbrev pub invariant-loop-name : goal.invariant-loop-name
invariant-loop-name l = numbers l.made ≡ numbers (take l.name-index l.names)
