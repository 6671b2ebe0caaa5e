use Rattle.std.proofs.Common.{◌≡◌, length}
use Rattle.occ_run.specs.Effects.{changes_of, value_after}
use Rattle.occ_run.proofs.within.value_after.Given as goal

abbrev pub invariant-loop-rest : goal.invariant-loop-rest
invariant-loop-rest l = value_after (changes_of l.rest) l.name.0 l.old ≡ value_after (changes_of l.changes) l.name.0 l.old

abbrev pub decreases-loop-rest : goal.decreases-loop-rest
decreases-loop-rest l = length l.rest
