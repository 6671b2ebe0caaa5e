use Rattle.std.proofs.Common.{◌≡◌, drop}
use Rattle.occ_parse_rules.specs.Places.{declared_in, entries_of}
use Rattle.occ_parse_scopes.proofs.scopes.Scopes.declare_all.Given as goal

-- the rest brings all into scope
abbrev pub invariant-loop-one : goal.invariant-loop-one
invariant-loop-one l = declared_in l.self (entries_of l.kind (drop l.one-index l.declared)) ≡ declared_in l.initial.self (entries_of l.kind l.declared)
