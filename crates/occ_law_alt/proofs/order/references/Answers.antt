use Rattle.std.proofs.Common.{◌∙◌}
use Rattle.std.proofs.lemmas.List.{take_all}
use Rattle.occ_law_alt.proofs.order.references.Goals as goal

pub returns : goal.returns
returns c = c.loop-other.invariant ∙ take_all c.loop-other.other-index c.args.others.now c.loop-other-test.false
