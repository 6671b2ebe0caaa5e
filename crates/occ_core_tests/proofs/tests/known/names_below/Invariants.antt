use Rattle.std.proofs.Common.{ℕ, ◌<◌, drop}
use Rattle.std.specs.List.{AllByRecursion}
use Rattle.occ_syntax.specs.View.{numbers}
use Rattle.occ_core_tests.proofs.tests.known.names_below.Given as goal

abbrev pub invariant-loop-name : goal.invariant-loop-name
invariant-loop-name l = AllByRecursion (λ (x : ℕ). x < l.count) (numbers (drop l.name-index l.names)) → AllByRecursion (λ (x : ℕ). x < l.count) (numbers l.names)
