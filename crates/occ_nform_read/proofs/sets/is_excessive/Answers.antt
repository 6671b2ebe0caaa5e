use Rattle.std.proofs.Common.{arith, sym}
use Rattle.occ_nform_read.proofs.Ranks.{none_shorter}
use Rattle.occ_nform_read.proofs.sets.is_excessive.Goals as goal

pub returns-then-set-least : goal.returns-then-set-least
returns-then-set-least c = sym (none_shorter c.args.set.now c.args.least c.args.sets.now (omega arith) c.requires.least)
