use Rattle.std.proofs.Common.{◌∙◌}
use Rattle.occ_law_right.proofs.Rights.{alone}
use Rattle.occ_law_right.proofs.communication.ending.Goals as goal

pub returns : goal.returns
returns c = c.alt_of.ensures ∙ alone _ _ c.args.wait c.in_ok-push.ensures.ok c.new-alternatives.ensures
