use Rattle.std.proofs.Common.{◌≡◌, ◌==◌, ℕ, length}
use Rattle.occ_syntax.specs.occ_base.declared.names.Name.{Name}
use Rattle.std.specs.List.{list_any}
use Rattle.occ_run.proofs.apply.is_changed.Given as goal

abbrev pub invariant-loop-rest : goal.invariant-loop-rest
invariant-loop-rest l = list_any (λ (c : Name × ℕ). c.0.0 == l.name.0) l.rest ≡ list_any (λ (c : Name × ℕ). c.0.0 == l.name.0) l.changes

abbrev pub decreases-loop-rest : goal.decreases-loop-rest
decreases-loop-rest l = length l.rest
