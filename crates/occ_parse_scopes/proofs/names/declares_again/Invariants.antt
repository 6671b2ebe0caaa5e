use Rattle.std.proofs.Common.{◌≡◌, drop}
use Rattle.occ_parse_rules.specs.Names.{redeclares_some}
use Rattle.occ_parse_rules.specs.Places.{entries_of}
use Rattle.occ_parse_scopes.specs.Checking.{StandsOn}
use Rattle.occ_parse_scopes.proofs.names.declares_again.Given as goal

-- what those that are left say is what all of them say
abbrev pub invariant-loop-one : goal.invariant-loop-one
invariant-loop-one l =
    (redeclares_some l.scopes (entries_of l.kind (drop l.one-index l.declared)) ≡ redeclares_some l.initial.scopes (entries_of l.kind l.declared)) × StandsOn l.scopes l.initial.scopes
