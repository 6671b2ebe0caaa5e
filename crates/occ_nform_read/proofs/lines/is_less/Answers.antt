use Rattle.occ_nform_read.proofs.Ranks.{less_is}
use Rattle.occ_nform_read.proofs.lines.is_less.Goals as goal

pub returns : goal.returns
returns c = less_is c.args.first.now c.args.second.now c.lt.result c.lt.ensures
