use Rattle.std.proofs.Common.{◌≡◌, ◌∷◌, ap, arith, sym, ◌∙◌}
use Rattle.occ_run.proofs.Rows.{control-Both}
use Rattle.occ_run.proofs.Sizes.{size, size_both, size_in_channels}
use Rattle.occ_run.specs.View.{control, controls, in_channels}
use Rattle.occ_run.specs.occ_run_steps.Control.{both}
use Rattle.occ_why_text.proofs.shape.+shape.Goals as goal

pub shape-shapes-requires : goal.shape-shapes-requires
shape-shapes-requires t c =
    let e = ap control c.in-Both.is ∙ control-Both c.in-Both.parts ∙ ap (λ xs. both (controls xs)) (sym c.deref-in-Both.ensures.value) in
    let w = size_both _ _ e in (omega (arith, w, c.decreases), tt)

pub shape-shape-requires-in-Channels : goal.shape-shape-requires-in-Channels
shape-shape-requires-in-Channels t c =
    let whole : size (control c.args.control.now) ≡ size (in_channels (c.in-Channels.first ∷ c.in-Channels.more.items) (control c.in-Channels.body.value)) = ap (λ x. size (control x)) c.in-Channels.is in
    let less = size_in_channels c.in-Channels.more.items (control c.in-Channels.body.value) in
    let same = ap (λ x. size (control x)) c.deref-in-Channels.ensures in (omega (arith, whole, less, same, c.decreases), tt)
