use Rattle.occ_norm_frame.proofs.After.{over-extends}
use Rattle.occ_norm_assign.proofs.run.behind.Goals as goal

pub by_states-requires-clause-rest : goal.by_states-requires-clause-rest
by_states-requires-clause-rest c = over-extends c.args.world.now c.by_digits.new.world c.by_digits.ensures.extends c.args.frame.now.bits c.args.rest c.requires.rest
