use Rattle.std.proofs.Common.{◌≡◌, drop}
use Rattle.occ_parse_rules.specs.Names.{redeclares_some}
use Rattle.occ_parse_rules.specs.Places.{param_entries}
use Rattle.occ_parse_scopes.specs.Checking.{StandsOn}
use Rattle.occ_parse_scopes.proofs.names.params_again.Given as goal

-- what those that are left say is what all of them say
abbrev pub invariant-loop-param : goal.invariant-loop-param
invariant-loop-param l =
    (redeclares_some l.scopes (param_entries (drop l.param-index l.params)) ≡ redeclares_some l.initial.scopes (param_entries l.params)) × StandsOn l.scopes l.initial.scopes
