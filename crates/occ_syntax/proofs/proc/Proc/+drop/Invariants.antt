use Rattle.std.proofs.Common.{◌≤◌}
use Rattle.occ_syntax.specs.declared.proc.Proc.{size-Proc}
use Rattle.occ_syntax.proofs.proc.Proc.+drop.Given as goal

-- what is left is no deeper than what is dropped
abbrev pub invariant-loop-self : goal.invariant-loop-self
invariant-loop-self l = size-Proc l.self ≤ size-Proc l.initial.self
