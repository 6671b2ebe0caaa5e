use Rattle.std.proofs.Common.{◌∙◌}
use Rattle.occ_node.proofs.Places.{contains_in}
use Rattle.occ_node.proofs.find.is_among.Goals as goal

pub returns : goal.returns
returns c = c.contains.ensures.value ∙ contains_in c.args.event c.args.events.now
