use Rattle.std.proofs.Common.{◌∙◌}
use Rattle.occ_law_seq.proofs.Among.{name_in}
use Rattle.occ_law_seq.proofs.pairs.has_name.Goals as goal

pub returns : goal.returns
returns c = c.contains.ensures.value ∙ name_in c.args.vars.now c.args.var
