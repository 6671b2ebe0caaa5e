use Rattle.std.proofs.Common.{◌∙◌}
use Rattle.occ_nform_read.proofs.Ranks.{has_is}
use Rattle.occ_nform_read.proofs.sets.has.Goals as goal

pub returns : goal.returns
returns c = c.is_ok.ensures.value ∙ has_is c.args.whole.now c.args.number c.binary_search.result c.requires c.binary_search.ensures.position
