use Rattle.std.proofs.Common.{◌≡◌, ◌+◌, ◌≤◌, min, drop}
use Rattle.occ_parse.specs.Drafts.{parameters}
use Rattle.occ_parse.proofs.drafting.parameter_count.Given as goal

-- what is counted with the parameters that are left is what all count, up to the limit
abbrev pub invariant-loop-param : goal.invariant-loop-param
invariant-loop-param l = (min 17 (l.count + parameters (drop l.param-index l.params)) ≡ min 17 (parameters l.params)) × (l.count ≤ 17)
