use Rattle.std.proofs.Common.{◌≡◌, ◌++◌, length}
use Rattle.occ_run_steps.specs.Step.{changes_but}
use Rattle.occ_run.specs.Effects.{changes_of}
use Rattle.occ_run.proofs.within.changes_but.Given as goal

abbrev pub invariant-loop-rest : goal.invariant-loop-rest
invariant-loop-rest l = changes_of l.others.items ++ changes_but l.name.0 (changes_of l.rest) ≡ changes_but l.name.0 (changes_of l.changes)

abbrev pub decreases-loop-rest : goal.decreases-loop-rest
decreases-loop-rest l = length l.rest
