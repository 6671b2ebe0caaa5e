use Rattle.occ_norm_frame.proofs.lifting.Lifting.new.Goals as goal

pub returns-clause-right : goal.returns-clause-right
returns-clause-right c = (c.new.ensures.right _ _, c.new-2.ensures _)
