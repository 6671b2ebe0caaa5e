use Rattle.std.proofs.Common.{ap, sym, ◌∙◌}
use Rattle.occ_syntax.specs.Types.{scope_kept}
use Rattle.occ_usage.proofs.Scoped.{usage_tells, none_so}
use Rattle.occ_usage.proofs.keeping.keeps.Goals as goal

pub returns : goal.returns
returns c =
    usage_tells c.args.program.now c.in_ok-fault.fault c.is_none.result
    (ap scope_kept (sym c.items.ensures) ∙ sym c.in_ok-keeps_scope.ensures ∙ c.if-not-branch.false)
    (sym c.in_ok-keeps_types.ensures ∙ c.if-not-branch-2.false)
    c.in_ok-fault.ensures (none_so c.in_ok-fault.fault c.is_none.result c.is_none.ensures)
