use Rattle.occ_law_alt.proofs.Parting.{front_size, parted_is, too_short}
use Rattle.occ_law_alt.proofs.parted.parted_behind.Goals as goal

pub returns-then-size-alternatives : goal.returns-then-size-alternatives
returns-then-size-alternatives c = too_short c.args.alternatives.now c.args.size c.if-size-alternatives.true

pub returns : goal.returns
returns c = (parted_is c.args.alternatives.now c.args.size, front_size c.args.alternatives.now c.args.size c.if-size-alternatives.false)
