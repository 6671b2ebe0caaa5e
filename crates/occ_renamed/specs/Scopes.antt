-- Scopes under other names.
use Rattle.std.specs.Prelude.{ℕ, List, [], ◌∷◌}
use Rattle.occ_replay_rules.specs.occ_base.declared.names.Name.{Name}
use Rattle.occ_replay_rules.specs.occ_syntax.declared.scope.Kind.{Kind}

abbrev pub scope_renamed : (ℕ → ℕ) → List (Name × Kind) → List (Name × Kind)
scope_renamed f [] = []
scope_renamed f (entry ∷ S) = (record { 0 = f entry.0.0 }, entry.1) ∷ scope_renamed f S
