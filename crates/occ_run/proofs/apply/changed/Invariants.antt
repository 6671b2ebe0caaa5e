use Rattle.std.proofs.Common.{◌≡◌, ◌++◌, not, ◌==◌, length}
use Rattle.occ_syntax.specs.occ_base.declared.names.Name.{Name}
use Rattle.std.proofs.Common.{ℕ}
use Rattle.std.specs.List.{filter, list_any}
use Rattle.occ_run.proofs.apply.changed.Given as goal

-- the changes, and of the state so far what isn't changed
abbrev pub invariant-loop-rest : goal.invariant-loop-rest
invariant-loop-rest l = l.new.items ++ filter (λ (v : Name × ℕ). not (list_any (λ (c : Name × ℕ). c.0.0 == v.0.0) l.changes)) l.rest
    ≡ l.changes ++ filter (λ (v : Name × ℕ). not (list_any (λ (c : Name × ℕ). c.0.0 == v.0.0) l.changes)) l.state

abbrev pub decreases-loop-rest : goal.decreases-loop-rest
decreases-loop-rest l = length l.rest
