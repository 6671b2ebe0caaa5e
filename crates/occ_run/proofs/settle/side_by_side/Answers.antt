use Rattle.std.proofs.Common.{Bool, if◌then◌else◌, sym, ap, ◌∙◌}
use Rattle.occ_run_steps.specs.Control.{all_done, both, done}
use Rattle.occ_run.specs.View.{controls}
use Rattle.occ_run.proofs.Rows.{control-Both}
use Rattle.occ_run.proofs.settle.side_by_side.Goals as goal

pub returns : goal.returns
returns c =
    control-Both c.args.parts
    ∙ ap (λ (b : Bool). if b then done else both (controls c.args.parts.items))
    (sym c.if-are_over.false ∙ c.are_over.ensures ∙ ap (λ xs. all_done (controls xs)) c.deref.ensures.value)
