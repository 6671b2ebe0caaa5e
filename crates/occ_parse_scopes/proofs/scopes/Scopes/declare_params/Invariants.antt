use Rattle.std.proofs.Common.{◌≡◌, drop}
use Rattle.occ_parse_rules.specs.Places.{declared_in, param_entries}
use Rattle.occ_parse_scopes.proofs.scopes.Scopes.declare_params.Given as goal

-- the rest brings all into scope
abbrev pub invariant-loop-param : goal.invariant-loop-param
invariant-loop-param l = declared_in l.self (param_entries (drop l.param-index l.params)) ≡ declared_in l.initial.self (param_entries l.params)
