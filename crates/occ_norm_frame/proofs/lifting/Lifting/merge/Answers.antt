use Rattle.occ_norm_frame.proofs.Worlds.{goes_world}
use Rattle.occ_norm_frame.proofs.lifting.Lifting.merge.Goals as goal

pub returns-in_err-both-in-Some-Some-clause-goes : goal.returns-in_err-both-in-Some-Some-clause-goes
returns-in_err-both-in-Some-Some-clause-goes c = goes_world c.args.self.now _ _ c.merge.ensures.leads (λ h. c.merge.ensures.unions)

pub returns-in_ok-both-in-Some-Some-clause-goes : goal.returns-in_ok-both-in-Some-Some-clause-goes
returns-in_ok-both-in-Some-Some-clause-goes c = goes_world c.args.self.now _ _ c.merge.ensures.leads (λ h. c.merge.ensures.unions)
