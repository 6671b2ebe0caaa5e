use Rattle.std.proofs.Common.{◌∙◌}
use Rattle.occ_norm_arrange.proofs.OwnNames.{names_there}
use Rattle.occ_norm_arrange.proofs.apart.has_name.Goals as goal

pub returns : goal.returns
returns c = c.contains.ensures.value ∙ names_there c.args.names.now c.args.name
