use Rattle.std.proofs.Common.{◌≡◌, drop}
use Rattle.occ_syntax.specs.View.{numbers}
use Rattle.occ_names.specs.Once.{has}
use Rattle.occ_names.specs.Mentions.{same_end}
use Rattle.occ_usage.specs.Faults.{first, end_faults}
use Rattle.occ_usage.proofs.sharing.shared_end_of.Given as goal

abbrev pub invariant-loop-name : goal.invariant-loop-name
invariant-loop-name l =
    first (end_faults (λ c d. has same_end l.shared (c, d)) l.node (numbers (drop l.name-index l.names))) ≡ first (end_faults (λ c d. has same_end l.shared (c, d)) l.node (numbers l.names))
