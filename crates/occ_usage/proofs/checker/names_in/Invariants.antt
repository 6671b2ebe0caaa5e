use Rattle.std.proofs.Common.{◌≡◌, take}
use Rattle.occ_syntax.specs.View.{numbers}
use Rattle.occ_usage.specs.Faults.{names_of}
use Rattle.occ_usage.proofs.checker.names_in.Given as goal

abbrev pub invariant-loop-name : goal.invariant-loop-name
invariant-loop-name l = numbers l.names.items ≡ names_of (take l.name-index l.scope)
