use Rattle.occ_norm_arrange.proofs.Reshaped.{reshaped_steps}
use Rattle.occ_norm_arrange.proofs.Itself.{found_is}
use Rattle.occ_norm_arrange.proofs.order.body_arranged.Goals as goal

pub returns : goal.returns
returns c =
    reshaped_steps _ _ _ (found_is c.in_ok-flat.field-0 c.in-Some.flat _ c.in-Some.is c.in_ok-flat.ensures)
    (found_is c.in_ok-whole.field-0 c.in-Some-2.whole _ c.in-Some-2.is c.in_ok-whole.ensures)
