use Rattle.std.proofs.Common.{◌==◌, ℕ, not, ap}
use Rattle.std.specs.List.{filter, list_any}
use Rattle.occ_syntax.specs.occ_base.declared.names.Name.{Name}
use Rattle.occ_run.proofs.Fronts.{none_is, none_more}
use Rattle.occ_run.proofs.States.{changed_values}
use Rattle.occ_run.proofs.apply.changed.Goals as goal

pub returns : goal.returns
returns c =
    changed_values c.args.changes.now c.args.state.now c.loop-rest.new.items
    (none_more _ _ _ (ap (filter (λ (v : Name × ℕ). not (list_any (λ (d : Name × ℕ). d.0.0 == v.0.0) c.args.changes.now))) (none_is c.loop-rest.rest.now c.in_default.len_below)) c.loop-rest.invariant)
